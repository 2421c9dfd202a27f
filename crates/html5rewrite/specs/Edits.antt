-- Tags as a rewriter changes them.
use Rattle.std.specs.Prelude.{ℕ, Bool, not, List, [], ◌∷◌, ◌++◌, filter, Option, None, Some, if◌then◌else◌}
use Rattle.std.specs.Str.{bytes_eq}
use Rattle.html5ever_interface.specs.Token.{TagOf}
use Rattle.html5reading.specs.Tag.{attribute}
use Rattle.markup5ever.specs.Names.{AttributeOf}

-- the value of the first of these attributes that has this name
unfoldable pub value_of : List ℕ → List AttributeOf → Option (List ℕ)
value_of name [] = None
value_of name (a ∷ attributes) = if bytes_eq a.name.local name then Some a.value else value_of name attributes

abbrev pub has_other_name : List ℕ → AttributeOf → Bool
has_other_name name a = not (bytes_eq a.name.local name)

-- a tag without its attributes of this name
abbrev pub without_attribute : List ℕ → TagOf → TagOf
without_attribute name tag = record tag { attributes = filter (has_other_name name) tag.attributes }

-- with this attribute as its last, in place of any of that name
abbrev pub with_attribute : List ℕ → List ℕ → TagOf → TagOf
with_attribute name value tag = record tag { attributes = filter (has_other_name name) tag.attributes ++ attribute name value ∷ [] }
