-- Tags: a name, then parts up to `>`. The parts are white space, `/`, and attributes. An attribute is a name and, where white
-- space and `=` follow it, a value.
-- The slices below are vocabulary of proofs: `html5grammar/specs/Tag` says how a tag is written.
use Rattle.std.specs.Prelude.{ℕ, Bool, true, false, List, [], ◌∷◌, ◌++◌, ◌==◌, ◌||◌, ◌&&◌, flat_map, codes, not, length, nat_eq, if◌then◌else◌}
use Rattle.std.specs.Str.{bytes_eq}
use Rattle.html5ever_interface.specs.Token.{Told, TagOf}
use Rattle.html5ever_interface.specs.Token.Told.{Error}
use Rattle.html5ever_interface.specs.declared.interface.token.TagKind.{TagKind}
use Rattle.html5ever_interface.specs.declared.interface.token.TagKind.TheVariants.{StartTag, EndTag}
use Rattle.html5ever_interface.specs.declared.states.AttrValueKind.{AttrValueKind}
use Rattle.html5ever_interface.specs.declared.states.AttrValueKind.TheVariants.{Unquoted, SingleQuoted, DoubleQuoted}
use Rattle.html5ever_interface.specs.declared.states.State.{State}
use Rattle.html5ever_interface.specs.declared.states.State.TheVariants as state
use Rattle.html5reading.specs.Characters.{null, quotation_mark, ampersand, apostrophe, solidus, less_than, equals_sign, greater_than, grave_accent, is_white_space, name_bytes}
use Rattle.html5reading.specs.ErrorText.{error_in, where_true}
use Rattle.html5reading.specs.Reference.{with_value, reference_text}
use Rattle.html5reading.specs.Slice.{Slice, silent, cut_off, one_character, with_character, with_run, run_of, after_run}
use Rattle.html5reading.specs.Slice.Afterwards.{Leaves}
use Rattle.html5reading.specs.Slice.Cell.{Ends}
use Rattle.html5reading.specs.Start.{OpenTag, Place, Rules}
use Rattle.html5reading.specs.Start.Stand.{InAttribute}
use Rattle.html5reading.specs.Start.Place.{InName, BeforeAttribute, InAttributeName, AfterAttributeName, BeforeValue, InValue, AfterQuotedValue, AfterSolidus}
use Rattle.html5reading.specs.Start.Mode.{Data}
use Rattle.html5reading.specs.Start.Open.{Between, InTag}
use Rattle.markup5ever.specs.Names.{AttributeOf, plain_name}

-- ---- attributes and their names

-- whether the tag has a last attribute
abbrev pub has_last : OpenTag → Bool
has_last tag = not (nat_eq (length tag.last_name) 0)

-- the attribute of that name and value, with no prefix and in no namespace
abbrev pub attribute : List ℕ → List ℕ → AttributeOf
attribute name value = record { name = plain_name name; value = value }

-- whether one of the attributes has the name
unfoldable pub has_attribute : List AttributeOf → List ℕ → Bool
has_attribute [] name = false
has_attribute (a ∷ attributes) name = bytes_eq a.name.local name || has_attribute attributes name

-- "Attribute name state", at its end: whether the tag already has the name of the last attribute
unfoldable pub repeats_attribute : OpenTag → Bool
repeats_attribute tag = has_attribute tag.attributes tag.last_name

-- the tag after its last attribute, which is dropped where the tag already has its name
unfoldable pub with_last_attribute : OpenTag → OpenTag
with_last_attribute tag =
    if not (has_last tag) then tag
    else if repeats_attribute tag then record tag { had_duplicate_attributes = true; last_name = []; last_value = [] }
    else record tag { attributes = tag.attributes ++ attribute tag.last_name tag.last_value ∷ []; last_name = []; last_value = [] }

-- "Attribute name state", at its end: the error of a repeated attribute, sent where the next one begins or the tag ends
unfoldable pub duplicate_error : OpenTag → List Told
duplicate_error tag = where_true (has_last tag && repeats_attribute tag) (Error (codes "Duplicate attribute"))

-- ---- the end of a tag

abbrev pub is_end_tag : TagKind → Bool
is_end_tag StartTag = false
is_end_tag EndTag = true

-- "Parse errors": an end tag with attributes
abbrev pub attributes_error : OpenTag → List Told
attributes_error tag = where_true (is_end_tag tag.kind && not (nat_eq (length tag.attributes) 0)) (Error (codes "Attributes on an end tag"))

-- "Parse errors": an end tag with a trailing solidus
abbrev pub self_closing_error : OpenTag → Bool → List Told
self_closing_error tag self_closing = where_true (is_end_tag tag.kind && self_closing) (Error (codes "Self-closing end tag"))

-- the errors of what an end tag should not have
unfoldable pub end_tag_errors : OpenTag → Bool → List Told
end_tag_errors tag self_closing = attributes_error tag ++ self_closing_error tag self_closing

-- the tag that is sent
abbrev pub told_tag : OpenTag → Bool → TagOf
told_tag tag self_closing = record {
  kind = tag.kind;
  name = tag.name;
  self_closing = self_closing;
  attributes = tag.attributes;
  had_duplicate_attributes = tag.had_duplicate_attributes;
}

-- the `>` of a tag, with errors of its place
unfoldable pub closing : List Told → OpenTag → Bool → Slice
closing errors tag self_closing =
    let closed : OpenTag = with_last_attribute tag in
    record {
      cells = Ends (errors ++ (duplicate_error tag ++ end_tag_errors closed self_closing)) (told_tag closed self_closing) ∷ [];
      afterwards = Leaves [] (Between Data);
    }

-- ---- values

-- NUL is an error in names and values, and is shown as U+FFFD
abbrev pub null_error : Bool → State → ℕ → List Told
null_error exact state c = where_true (c == null) (error_in exact state c)

-- the character that ends a value in quotes
abbrev pub quote_of : AttrValueKind → ℕ
quote_of DoubleQuoted = quotation_mark
quote_of SingleQuoted = apostrophe
quote_of Unquoted = greater_than

-- "Attribute value (double-quoted) state" and its single-quoted form, at the character that ends a run
unfoldable pub after_quoted : Rules → AttrValueKind → OpenTag → List ℕ → Slice
after_quoted rules kind tag [] = cut_off (InTag (InValue kind) tag)
after_quoted rules kind tag (c ∷ text) =
    if c == ampersand then with_character [] (reference_text rules (InAttribute kind tag) [] text) else one_character [] (InTag AfterQuotedValue tag)

-- whether a character goes on with a run of a value in quotes
unfoldable pub in_quoted : AttrValueKind → ℕ → Bool
in_quoted kind c = not ((c == quote_of kind) || (c == ampersand))

-- "Attribute value (double-quoted) state" and "Attribute value (single-quoted) state": a value in quotes runs to its quote
unfoldable pub quoted_value : Rules → AttrValueKind → OpenTag → List ℕ → Slice
quoted_value rules kind tag text =
    let run : List ℕ = run_of (in_quoted kind) text in
    with_run (null_error rules.exact (state.AttributeValue kind)) run (after_quoted rules kind (with_value tag run) (after_run (in_quoted kind) text))

-- "Attribute value (unquoted) state", at the character that ends a run
unfoldable pub after_unquoted : Rules → OpenTag → List ℕ → Slice
after_unquoted rules tag [] = cut_off (InTag (InValue Unquoted) tag)
after_unquoted rules tag (c ∷ text) =
    if c == ampersand then with_character [] (reference_text rules (InAttribute Unquoted tag) [] text)
    else if c == greater_than then closing [] tag false
    else one_character [] (InTag BeforeAttribute tag)

-- whether a character goes on with a run of a value without quotes
unfoldable pub in_unquoted : ℕ → Bool
in_unquoted c = not (is_white_space c || (c == greater_than) || (c == ampersand))

-- the characters that are errors in a value without quotes, and only with exact errors
unfoldable pub is_odd_in_unquoted : ℕ → Bool
is_odd_in_unquoted c = (c == quotation_mark) || (c == apostrophe) || (c == less_than) || (c == equals_sign) || (c == grave_accent)

unfoldable pub unquoted_error : Bool → ℕ → List Told
unquoted_error exact c =
    where_true ((c == null) || (exact && is_odd_in_unquoted c)) (error_in exact (state.AttributeValue Unquoted) c)

-- "Attribute value (unquoted) state": a value without quotes runs to white space or `>`
unfoldable pub unquoted_value : Rules → OpenTag → List ℕ → Slice
unquoted_value rules tag text =
    let run : List ℕ = run_of in_unquoted text in
    with_run (unquoted_error rules.exact) run (after_unquoted rules (with_value tag run) (after_run in_unquoted text))

-- "Before attribute value state": a value, after `=` and white space
unfoldable pub value : Rules → OpenTag → List ℕ → Slice
value rules tag [] = cut_off (InTag BeforeValue tag)
value rules tag (c ∷ text) =
    if c == quotation_mark then with_character [] (quoted_value rules DoubleQuoted tag text)
    else if c == apostrophe then with_character [] (quoted_value rules SingleQuoted tag text)
    else if c == greater_than then closing (error_in rules.exact state.BeforeAttributeValue equals_sign ∷ []) tag false
    else unquoted_value rules tag (c ∷ text)

-- "Before attribute value state": white space after `=`, and the value
unfoldable pub value_after_space : Rules → OpenTag → List ℕ → Slice
value_after_space rules tag text =
    with_run silent (run_of is_white_space text) (value rules tag (after_run is_white_space text))

-- ---- attributes

-- "After attribute name state": after white space a `=` brings a value, and another character begins the next part
unfoldable pub value_or_next : Rules → OpenTag → List ℕ → Slice
value_or_next rules tag [] = cut_off (InTag AfterAttributeName tag)
value_or_next rules tag (c ∷ text) =
    if c == equals_sign then with_character [] (value_after_space rules tag text)
    else cut_off (InTag AfterAttributeName tag)

-- "After attribute name state": white space after an attribute's name, and the text after it
unfoldable pub after_name_and_space : Rules → OpenTag → List ℕ → Slice
after_name_and_space rules tag text =
    with_run silent (run_of is_white_space text) (value_or_next rules tag (after_run is_white_space text))

-- "Attribute name state", at the character that ends the name
unfoldable pub after_attribute_name : Rules → OpenTag → List ℕ → Slice
after_attribute_name rules tag [] = cut_off (InTag InAttributeName tag)
after_attribute_name rules tag (c ∷ text) =
    if is_white_space c then with_character [] (after_name_and_space rules tag text)
    else if c == solidus then one_character [] (InTag AfterSolidus tag)
    else if c == equals_sign then with_character [] (value_after_space rules tag text)
    else closing [] tag false

-- whether a character goes on with an attribute's name
unfoldable pub in_attribute_name : ℕ → Bool
in_attribute_name c = not (is_white_space c || (c == solidus) || (c == greater_than) || (c == equals_sign))

-- "Attribute name state": the characters that are errors in a name
unfoldable pub is_odd_in_name : ℕ → Bool
is_odd_in_name c = (c == null) || (c == quotation_mark) || (c == apostrophe) || (c == less_than)

-- the characters that are errors as the first of an attribute's name
unfoldable pub is_odd_at_name : ℕ → Bool
is_odd_at_name c = is_odd_in_name c || (c == equals_sign)

abbrev pub attribute_name_error : Bool → ℕ → List Told
attribute_name_error exact c = where_true (is_odd_in_name c) (error_in exact state.AttributeName c)

-- the tag with more of its last attribute's name
abbrev pub with_last_name : OpenTag → List ℕ → OpenTag
with_last_name tag run = record tag { last_name = tag.last_name ++ flat_map name_bytes run }

-- "Attribute name state": an attribute after the first character of its name
unfoldable pub attribute_after_first : Rules → OpenTag → List ℕ → Slice
attribute_after_first rules tag text =
    let run : List ℕ = run_of in_attribute_name text in
    with_run (attribute_name_error rules.exact) run (after_attribute_name rules (with_last_name tag run) (after_run in_attribute_name text))

-- ---- the parts of a tag

-- "Self-closing start tag state" and "After attribute value (quoted) state": the error of a character that its place doesn't
-- expect
unfoldable pub place_error : Bool → Place → ℕ → List Told
place_error exact AfterSolidus c = where_true (not (c == greater_than)) (error_in exact state.SelfClosingStartTag c)
place_error exact AfterQuotedValue c =
    where_true (not (is_white_space c || (c == solidus) || (c == greater_than))) (error_in exact state.AfterAttributeValueQuoted c)
place_error exact place c = []

-- "Before attribute name state" and "After attribute name state": the error of a character that should not begin a name
unfoldable pub first_error : Bool → Place → ℕ → List Told
first_error exact AfterAttributeName c = where_true (is_odd_at_name c) (error_in exact state.AfterAttributeName c)
first_error exact place c = where_true (is_odd_at_name c) (error_in exact state.BeforeAttributeName c)

-- whether the place is directly after a `/`
abbrev pub is_after_solidus : Place → Bool
is_after_solidus AfterSolidus = true
is_after_solidus place = false

-- "Before attribute name state", "After attribute name state", "After attribute value (quoted) state" and "Self-closing start tag
-- state": the part that c begins at such a place
unfoldable pub part : Rules → Place → OpenTag → ℕ → List ℕ → Slice
part rules place tag c text =
    let errors : List Told = place_error rules.exact place c in
    if c == greater_than then closing errors tag (is_after_solidus place)
    else if is_white_space c then one_character errors (InTag BeforeAttribute tag)
    else if c == solidus then one_character errors (InTag AfterSolidus tag)
    else with_character (errors ++ (first_error rules.exact place c ++ duplicate_error tag)) (attribute_after_first rules (with_last_name (with_last_attribute tag) (c ∷ [])) text)

-- ---- the name of a tag

-- "Tag name state", at the character that ends the name
unfoldable pub after_tag_name : OpenTag → List ℕ → Slice
after_tag_name tag [] = cut_off (InTag InName tag)
after_tag_name tag (c ∷ text) =
    if is_white_space c then one_character [] (InTag BeforeAttribute tag)
    else if c == solidus then one_character [] (InTag AfterSolidus tag)
    else closing [] tag false

-- whether a character goes on with a tag's name
unfoldable pub in_tag_name : ℕ → Bool
in_tag_name c = not (is_white_space c || (c == solidus) || (c == greater_than))

-- the tag with more of its name
abbrev pub with_name : OpenTag → List ℕ → OpenTag
with_name tag run = record tag { name = tag.name ++ flat_map name_bytes run }

-- "Tag name state": a tag's name, and the character that ends it
unfoldable pub tag_name : Bool → OpenTag → List ℕ → Slice
tag_name exact tag text =
    let run : List ℕ = run_of in_tag_name text in
    with_run (null_error exact state.TagName) run (after_tag_name (with_name tag run) (after_run in_tag_name text))
