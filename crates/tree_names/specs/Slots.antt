-- The names that the rows know as small numbers, and the slots by which they are found.
use Rattle.std.specs.Prelude.{ℕ, Bool, ◌+◌, ◌*◌, ◌/◌, ◌%◌, ◌-◌, List, [], ◌∷◌, codes, length, slice_index, slice_index_or}
use Rattle.std.specs.List.{list_all}
use Rattle.std.specs.Str.{bytes_eq}
use Rattle.tree_construction.specs.Names.{all_names}

-- the names in the order of the table of kinds
abbrev pub known_names : List (List ℕ)
known_names =
    codes "html" ∷ codes "head" ∷ codes "body" ∷ codes "title" ∷ codes "base" ∷ codes "basefont" ∷ codes "bgsound" ∷ codes "link"
    ∷ codes "meta" ∷ codes "style" ∷ codes "script" ∷ codes "noscript" ∷ codes "noframes" ∷ codes "template" ∷ codes "frameset"
    ∷ codes "frame" ∷ codes "p" ∷ codes "address" ∷ codes "div" ∷ codes "blockquote" ∷ codes "center" ∷ codes "dl" ∷ codes "menu"
    ∷ codes "article" ∷ codes "aside" ∷ codes "details" ∷ codes "dir" ∷ codes "figcaption" ∷ codes "figure" ∷ codes "footer"
    ∷ codes "header" ∷ codes "hgroup" ∷ codes "main" ∷ codes "nav" ∷ codes "search" ∷ codes "section" ∷ codes "summary" ∷ codes "dialog"
    ∷ codes "fieldset" ∷ codes "ol" ∷ codes "ul" ∷ codes "li" ∷ codes "dd" ∷ codes "dt" ∷ codes "h1" ∷ codes "h2" ∷ codes "h3" ∷ codes "h4"
    ∷ codes "h5" ∷ codes "h6" ∷ codes "listing" ∷ codes "pre" ∷ codes "form" ∷ codes "button" ∷ codes "a" ∷ codes "nobr" ∷ codes "font"
    ∷ codes "b" ∷ codes "big" ∷ codes "code" ∷ codes "em" ∷ codes "i" ∷ codes "s" ∷ codes "small" ∷ codes "strike" ∷ codes "strong"
    ∷ codes "tt" ∷ codes "u" ∷ codes "span" ∷ codes "sub" ∷ codes "sup" ∷ codes "var" ∷ codes "ruby" ∷ codes "rb" ∷ codes "rtc" ∷ codes "rp"
    ∷ codes "rt" ∷ codes "applet" ∷ codes "marquee" ∷ codes "object" ∷ codes "table" ∷ codes "caption" ∷ codes "colgroup" ∷ codes "col"
    ∷ codes "tbody" ∷ codes "tfoot" ∷ codes "thead" ∷ codes "tr" ∷ codes "td" ∷ codes "th" ∷ codes "area" ∷ codes "keygen" ∷ codes "wbr"
    ∷ codes "br" ∷ codes "embed" ∷ codes "img" ∷ codes "image" ∷ codes "input" ∷ codes "param" ∷ codes "source" ∷ codes "track" ∷ codes "hr"
    ∷ codes "textarea" ∷ codes "xmp" ∷ codes "iframe" ∷ codes "noembed" ∷ codes "plaintext" ∷ codes "select" ∷ codes "option"
    ∷ codes "optgroup" ∷ codes "output" ∷ codes "math" ∷ codes "svg" ∷ codes "malignmark" ∷ codes "mglyph" ∷ []

abbrev pub name_at : ℕ → List ℕ
name_at place = slice_index_or known_names place []

-- A name is found by its slot, a number made of its length and of its first, last and middle byte. No two names have the same.
abbrev pub slot_of : List ℕ → ℕ
slot_of name =
    (16 * (length name % 16) + 14 * slice_index name 0 + 126 * slice_index name (length name - 1) + 147 * slice_index name (length name / 2)) % 512

-- whether a name is found where a table says, by slot, at which place it is
abbrev pub finds : List ℕ → List ℕ → Bool
finds places name = bytes_eq (name_at (slice_index places (slot_of name))) name

unfoldable pub finds_all : List ℕ → Bool
finds_all places = list_all (λ row. list_all (finds places) row.names) all_names
