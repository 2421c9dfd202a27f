-- The names of elements. A name is its bytes.
use Rattle.std.specs.Prelude.{ℕ, Bool, List, [], ◌∷◌, codes, Option}
use Rattle.std.specs.List.{list_any}
use Rattle.std.specs.Str.{bytes_eq}
use Rattle.html5names.specs.Slips.{meant_among}

-- "List of elements", and the elements that the standard calls obsolete, in the order of their bytes
unfoldable pub elements : List (List ℕ)
elements =
    codes "a" ∷ codes "abbr" ∷ codes "acronym" ∷ codes "address" ∷ codes "applet" ∷ codes "area" ∷ codes "article" ∷ codes "aside" ∷ codes "audio" ∷
    codes "b" ∷ codes "base" ∷ codes "basefont" ∷ codes "bdi" ∷ codes "bdo" ∷ codes "bgsound" ∷ codes "big" ∷ codes "blink" ∷ codes "blockquote" ∷
    codes "body" ∷ codes "br" ∷ codes "button" ∷ codes "canvas" ∷ codes "caption" ∷ codes "center" ∷ codes "cite" ∷ codes "code" ∷ codes "col" ∷
    codes "colgroup" ∷ codes "data" ∷ codes "datalist" ∷ codes "dd" ∷ codes "del" ∷ codes "details" ∷ codes "dfn" ∷ codes "dialog" ∷ codes "dir" ∷
    codes "div" ∷ codes "dl" ∷ codes "dt" ∷ codes "em" ∷ codes "embed" ∷ codes "fieldset" ∷ codes "figcaption" ∷ codes "figure" ∷ codes "font" ∷
    codes "footer" ∷ codes "form" ∷ codes "frame" ∷ codes "frameset" ∷ codes "h1" ∷ codes "h2" ∷ codes "h3" ∷ codes "h4" ∷ codes "h5" ∷ codes "h6" ∷
    codes "head" ∷ codes "header" ∷ codes "hgroup" ∷ codes "hr" ∷ codes "html" ∷ codes "i" ∷ codes "iframe" ∷ codes "image" ∷ codes "img" ∷
    codes "input" ∷ codes "ins" ∷ codes "isindex" ∷ codes "kbd" ∷ codes "keygen" ∷ codes "label" ∷ codes "legend" ∷ codes "li" ∷ codes "link" ∷
    codes "listing" ∷ codes "main" ∷ codes "map" ∷ codes "mark" ∷ codes "marquee" ∷ codes "math" ∷ codes "menu" ∷ codes "menuitem" ∷ codes "meta" ∷
    codes "meter" ∷ codes "multicol" ∷ codes "nav" ∷ codes "nextid" ∷ codes "nobr" ∷ codes "noembed" ∷ codes "noframes" ∷ codes "noscript" ∷
    codes "object" ∷ codes "ol" ∷ codes "optgroup" ∷ codes "option" ∷ codes "output" ∷ codes "p" ∷ codes "param" ∷ codes "picture" ∷
    codes "plaintext" ∷ codes "pre" ∷ codes "progress" ∷ codes "q" ∷ codes "rb" ∷ codes "rp" ∷ codes "rt" ∷ codes "rtc" ∷ codes "ruby" ∷ codes "s" ∷
    codes "samp" ∷ codes "script" ∷ codes "search" ∷ codes "section" ∷ codes "select" ∷ codes "selectedcontent" ∷ codes "slot" ∷ codes "small" ∷
    codes "source" ∷ codes "spacer" ∷ codes "span" ∷ codes "strike" ∷ codes "strong" ∷ codes "style" ∷ codes "sub" ∷ codes "summary" ∷ codes "sup" ∷
    codes "svg" ∷ codes "table" ∷ codes "tbody" ∷ codes "td" ∷ codes "template" ∷ codes "textarea" ∷ codes "tfoot" ∷ codes "th" ∷ codes "thead" ∷
    codes "time" ∷ codes "title" ∷ codes "tr" ∷ codes "track" ∷ codes "tt" ∷ codes "u" ∷ codes "ul" ∷ codes "var" ∷ codes "video" ∷ codes "wbr" ∷
    codes "xmp" ∷ []

-- whether an element of this name is listed
abbrev pub is_known_element : List ℕ → Bool
is_known_element name = list_any (bytes_eq name) elements

-- the element that was meant by a name
abbrev pub meant_element : List ℕ → Option (List ℕ)
meant_element name = meant_among elements name
