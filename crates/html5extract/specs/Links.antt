-- The links of a page, and how they are printed.
use Rattle.std.specs.Prelude.{ℕ, Bool, List, [], ◌∷◌, ◌++◌, ◌||◌, nat_eq, Option, None, Some, codes, decimal, if◌then◌else◌}
use Rattle.std.specs.List.{flat_map}
use Rattle.std.specs.Str.{bytes_eq}
use Rattle.html5programs.specs.Fronts.{in_front}
use Rattle.markup5ever.specs.Names.{AttributeOf}
use Rattle.html5ever_interface.specs.Token.{TagOf}
use Rattle.html5ever_interface.specs.declared.interface.token.TagKind.{TagKind}
use Rattle.html5ever_interface.specs.declared.interface.token.TagKind.TheVariants.{StartTag, EndTag}

-- the value of the first attribute of this name
unfoldable pub value_of : List ℕ → List AttributeOf → Option (List ℕ)
value_of name [] = None
value_of name (a ∷ attributes) = if bytes_eq a.name.local name then Some a.value else value_of name attributes

-- the attribute that holds the link of an element of this name
unfoldable pub link_attribute : List ℕ → Option (List ℕ)
link_attribute name =
    if bytes_eq name (codes "a") || bytes_eq name (codes "area") || bytes_eq name (codes "link") then Some (codes "href")
    else if bytes_eq name (codes "img") || bytes_eq name (codes "script") || bytes_eq name (codes "iframe") then Some (codes "src")
    else None

-- the value of the attribute, if there is one
abbrev pub value_where : Option (List ℕ) → List AttributeOf → Option (List ℕ)
value_where None attributes = None
value_where (Some name) attributes = value_of name attributes

-- the link of a tag of this kind
abbrev pub link_by_kind : TagKind → List ℕ → List AttributeOf → Option (List ℕ)
link_by_kind StartTag name attributes = value_where (link_attribute name) attributes
link_by_kind EndTag name attributes = None

-- the link of a tag
abbrev pub link_of : TagOf → Option (List ℕ)
link_of tag = link_by_kind tag.kind tag.name tag.attributes

-- a byte, unless it is a tab or breaks a line
abbrev pub kept : ℕ → List ℕ
kept byte = if nat_eq byte 9 || nat_eq byte 10 || nat_eq byte 13 then [] else byte ∷ []

-- what is printed for a link: a line, with the number of its tag's line
abbrev pub line_of : ℕ → List ℕ → List ℕ
line_of line link = decimal line ++ codes " " ++ flat_map kept link ++ codes "\n"

-- after the name in front
abbrev pub named_line_of : Option (List ℕ) → ℕ → List ℕ → List ℕ
named_line_of front line link = in_front front ++ line_of line link
