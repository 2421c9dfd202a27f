-- Tags as they are written, in characters: "Serializing HTML fragments", for one tag.
use Rattle.std.specs.Prelude.{ℕ, Bool, true, false, not, List, [], ◌∷◌, ◌++◌, ◌==◌, ◌&&◌, nat_eq, length, chars, codes, flat_map, if◌then◌else◌}
use Rattle.std.specs.List.{list_all}
use Rattle.std.specs.Option.{is_none}
use Rattle.std.specs.Str.{bytes_eq}
use Rattle.html5ever_interface.specs.Token.{TagOf}
use Rattle.html5ever_interface.specs.declared.interface.token.TagKind.{TagKind}
use Rattle.html5ever_interface.specs.declared.interface.token.TagKind.TheVariants.{StartTag, EndTag}
use Rattle.html5reading.specs.Characters.{equals_sign}
use Rattle.html5reading.specs.Lawful.{has_no_null}
use Rattle.html5serialize.specs.Escapes.{value_text_by}
use Rattle.html5serialize.specs.declared.escaping.Escapes.{Escapes}
use Rattle.html5serialize.specs.declared.escaping.Escapes.TheVariants.{Numbers}
use Rattle.html5write.specs.Pieces.{is_name_character, is_tag_name}
use Rattle.markup5ever.specs.Names.{AttributeOf, QualifiedName}

-- ---- the text that is written

-- a space, the name without its prefix and its namespace, `=`, and the value in double quotes, with references for the characters
-- that can't stand for themselves
abbrev pub attribute_text_by : Escapes → AttributeOf → List ℕ
attribute_text_by escapes a = codes " " ++ (chars a.name.local ++ (codes "=\"" ++ (value_text_by escapes (chars a.value) ++ codes "\"")))

-- attributes one after another
abbrev pub attributes_text_by : Escapes → List AttributeOf → List ℕ
attributes_text_by escapes attributes = flat_map (λ a. attribute_text_by escapes a) attributes

-- what a tag begins with
abbrev pub opening_text : TagKind → List ℕ
opening_text StartTag = codes "<"
opening_text EndTag = codes "</"

-- what a tag ends with. A `/` directly before `>` closes it at once.
abbrev pub closing_text : Bool → List ℕ
closing_text self_closing = if self_closing then codes "/>" else codes ">"

-- the opening, the name, the attributes in order, and the end. An end tag has its attributes, too.
abbrev pub tag_text_by : Escapes → TagOf → List ℕ
tag_text_by escapes tag = opening_text tag.kind ++ (chars tag.name ++ (attributes_text_by escapes tag.attributes ++ closing_text tag.self_closing))

-- by number
abbrev pub tag_text : TagOf → List ℕ
tag_text tag = tag_text_by Numbers tag

-- ---- which tags can be written, by the bytes of their names and values

-- a reading gives a name no prefix and no namespace
abbrev pub is_unqualified : QualifiedName → Bool
is_unqualified name = is_none name.prefix && nat_eq (length name.ns) 0

-- "Attribute name state": whether a character can stand in the name of an attribute after its first one: `=` would end it
abbrev pub is_later_character : ℕ → Bool
is_later_character c = is_name_character c && not (c == equals_sign)

-- "Before attribute name state": the first one can be a `=`. Quotes, `<` and such a `=` are errors, and are kept.
unfoldable pub is_attribute_name : List ℕ → Bool
is_attribute_name [] = false
is_attribute_name (c ∷ name) = is_name_character c && list_all is_later_character name

abbrev pub is_attribute : AttributeOf → Bool
is_attribute a = is_unqualified a.name && (is_attribute_name a.name.local && has_no_null a.value)

abbrev pub differs_from : AttributeOf → AttributeOf → Bool
differs_from a other = not (bytes_eq a.name.local other.name.local)

-- "Attribute name state": no two attributes have one name
unfoldable pub are_distinct : List AttributeOf → Bool
are_distinct [] = true
are_distinct (a ∷ attributes) = list_all (differs_from a) attributes && are_distinct attributes

-- whether a tag can be written. Whether an attribute was left out of it is not written.
abbrev pub is_tag : TagOf → Bool
is_tag tag = is_tag_name tag.name && (list_all is_attribute tag.attributes && are_distinct tag.attributes)
