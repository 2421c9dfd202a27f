-- One tag as source text, with references in its values, and what it tells. A value is any run up to its end. What it shows is
-- the run with its references decoded.
use Rattle.std.specs.Prelude.{◌≡◌, ℕ, Bool, true, false, List, [], ◌∷◌, ◌++◌, ◌==◌, ◌||◌, ◌&&◌, not, flat_map, codes, if◌then◌else◌, zero, suc, Option, None, Some}
use Rattle.std.specs.List.{list_all}
use Rattle.html5ever_interface.specs.Sink.{Message}
use Rattle.html5ever_interface.specs.Token.{Told, TagOf}
use Rattle.html5ever_interface.specs.Token.Told.{Error, Tag, End}
use Rattle.html5ever_interface.specs.declared.interface.token.TagKind.{TagKind}
use Rattle.html5ever_interface.specs.declared.interface.token.TagKind.TheVariants.{StartTag, EndTag}
use Rattle.html5ever_interface.specs.declared.states.AttrValueKind.TheVariants.{Unquoted, SingleQuoted, DoubleQuoted}
use Rattle.html5ever_interface.specs.declared.states.State.TheVariants as state
use Rattle.html5reading.specs.Characters.{quotation_mark, apostrophe, solidus, less_than, equals_sign, greater_than, is_letter, is_white_space, value_bytes, name_bytes, ampersand}
use Rattle.html5reading.specs.ErrorText.{error_in, where_true, end_error_in}
use Rattle.html5reading.specs.NormalisedText.{normalised, line_after}
use Rattle.html5reading.specs.Start.{Input, OpenTag, Place, Start, Rules}
use Rattle.html5reading.specs.Start.Mode.{Data}
use Rattle.html5reading.specs.Start.Open.{Between}
use Rattle.html5reading.specs.Start.Place.{InName, BeforeAttribute, InAttributeName, AfterAttributeName, BeforeValue, InValue, AfterQuotedValue, AfterSolidus}
use Rattle.html5grammar.specs.Spelled.{Spelled, spell, spell_silent, spelled_messages}
use Rattle.html5reading.specs.Tag.{attribute, has_attribute, end_tag_errors, told_tag, null_error, unquoted_error, in_attribute_name, attribute_name_error, place_error, first_error, is_after_solidus, in_tag_name, quote_of}
use Rattle.markup5ever.specs.Names.{AttributeOf}
use Rattle.html5ever_interface.specs.declared.states.AttrValueKind.{AttrValueKind}
use Rattle.html5reading.specs.Reference.{Found, reference, is_undecided, first_or, characters_in}
use Rattle.html5reading.specs.Slice.{run_while, after_while}
use Rattle.markup5ever.specs.NamedReferences.{NamedReference}
use Rattle.html5reading.specs.EndOfInput.{state_at}
use Rattle.std.specs.Option.{is_none}

-- ---- how a tag is written

-- "Before attribute value state": a value, after `=` and white space
pub data Value : Type 0 where
  InDoubleQuotes : List ℕ → Value
  InSingleQuotes : List ℕ → Value
  Bare : List ℕ → Value

-- a part of a tag, between its name and its `>`
pub data Part : Type 0 where
  -- one character of white space
  Blank : ℕ → Part
  -- `/`
  Solidus : Part
  -- an attribute without a value: the first character of its name, and the rest
  Name : ℕ → List ℕ → Part
  -- an attribute: its name likewise, the white space before `=` and after it, and the value
  Attribute : ℕ → List ℕ → List ℕ → List ℕ → Value → Part

-- "Tag name state" to "Self-closing start tag state": a tag as the first character of its name, the rest, and the parts between
-- the name and `>`
pub record WrittenTag : Type 0 where
  pub kind : TagKind
  pub first : ℕ
  pub rest : List ℕ
  pub parts : List Part

-- ---- its text

-- the text of a value, with its quotes
abbrev pub value_text : Value → List ℕ
value_text (InDoubleQuotes run) = quotation_mark ∷ run ++ quotation_mark ∷ []
value_text (InSingleQuotes run) = apostrophe ∷ run ++ apostrophe ∷ []
value_text (Bare run) = run

-- the text of a part
abbrev pub part_text : Part → List ℕ
part_text (Blank c) = c ∷ []
part_text Solidus = solidus ∷ []
part_text (Name first rest) = first ∷ rest
part_text (Attribute first rest before afterwards value) = first ∷ rest ++ (before ++ (equals_sign ∷ afterwards ++ value_text value))

-- what a tag begins with
abbrev pub opening : TagKind → List ℕ
opening StartTag = less_than ∷ []
opening EndTag = less_than ∷ solidus ∷ []

-- the text of a tag
unfoldable pub written : WrittenTag → List ℕ
written tag = (opening tag.kind ++ (tag.first ∷ tag.rest ++ flat_map part_text tag.parts)) ++ greater_than ∷ []

-- ---- which parts can stand where, so that each name and value is as long as it can be

-- "After attribute value (quoted) state": the place after a value
abbrev pub place_after_value : Value → Place
place_after_value (InDoubleQuotes run) = AfterQuotedValue
place_after_value (InSingleQuotes run) = AfterQuotedValue
place_after_value (Bare []) = BeforeValue
place_after_value (Bare (c ∷ run)) = InValue Unquoted

-- the place after a part
abbrev pub place_after : Place → Part → Place
place_after InAttributeName (Blank c) = AfterAttributeName
place_after AfterAttributeName (Blank c) = AfterAttributeName
place_after place (Blank c) = BeforeAttribute
place_after place Solidus = AfterSolidus
place_after place (Name first rest) = InAttributeName
place_after place (Attribute first rest before afterwards value) = place_after_value value

-- whether white space can stand at a place. It can everywhere but within quotes, and after an empty value, where it would stand
-- before that.
abbrev pub takes_blank : Place → Bool
takes_blank BeforeValue = false
takes_blank (InValue SingleQuoted) = false
takes_blank (InValue DoubleQuoted) = false
takes_blank place = true

-- "Self-closing start tag state": whether a `/` can stand at a place. After a value without quotes it is part of it.
abbrev pub takes_solidus : Place → Bool
takes_solidus BeforeValue = false
takes_solidus (InValue kind) = false
takes_solidus place = true

-- "Before attribute name state" and "After attribute name state": whether an attribute can begin so at a place. It can't directly
-- after a name or a value without quotes. After a name and white space a `=` would bring a value.
abbrev pub takes_attribute : Place → ℕ → Bool
takes_attribute BeforeAttribute first = true
takes_attribute AfterQuotedValue first = true
takes_attribute AfterSolidus first = true
takes_attribute AfterAttributeName first = not (first == equals_sign)
takes_attribute place first = false

-- "Before attribute name state": whether c can be the first character of an attribute's name
unfoldable pub begins_attribute : ℕ → Bool
begins_attribute c = not (is_white_space c || (c == solidus) || (c == greater_than))

-- "Attribute name state": whether this is an attribute's name, at a place
abbrev pub is_attribute_name : Place → ℕ → List ℕ → Bool
is_attribute_name place first rest = takes_attribute place first && (begins_attribute first && list_all in_attribute_name rest)

-- "Attribute value (double-quoted) state" and the two others: whether a character can stand in a value
unfoldable pub is_in_value : AttrValueKind → ℕ → Bool
is_in_value Unquoted c = not (is_white_space c || (c == greater_than))
is_in_value kind c = not (c == quote_of kind)

-- "Before attribute value state": whether this is a value. One without quotes doesn't begin with a quote.
abbrev pub is_value : Value → Bool
is_value (InDoubleQuotes run) = list_all (is_in_value DoubleQuoted) run
is_value (InSingleQuotes run) = list_all (is_in_value SingleQuoted) run
is_value (Bare []) = true
is_value (Bare (c ∷ run)) = not (c == quotation_mark) && (not (c == apostrophe) && list_all (is_in_value Unquoted) (c ∷ run))

-- whether a part can stand at a place, as source text
abbrev pub can_stand : Place → Part → Bool
can_stand place (Blank c) = takes_blank place && is_white_space c
can_stand place Solidus = takes_solidus place
can_stand place (Name first rest) = is_attribute_name place first rest
can_stand place (Attribute first rest before afterwards value) =
    is_attribute_name place first rest && (list_all is_white_space before && (list_all is_white_space afterwards && is_value value))

-- whether parts can stand from a place on
unfoldable pub can_follow : Place → List Part → Bool
can_follow place [] = true
can_follow place (part ∷ parts) = can_stand place part && can_follow (place_after place part) parts

-- "Tag name state": whether this is a tag, written out
unfoldable pub is_written : WrittenTag → Bool
is_written tag = is_letter tag.first && (list_all in_tag_name tag.rest && can_follow InName tag.parts)

-- ---- references, by the whole text after the `&`

-- "Character reference state": the held part of the text F
abbrev pub held_in : List NamedReference → List ℕ → List ℕ
held_in references F = run_while (is_undecided references) [] F

-- "Character reference state": the character that decides F
abbrev pub deciding_in : List NamedReference → List ℕ → Option ℕ
deciding_in references F = first_or (after_while (is_undecided references) [] F) None

-- "Character reference state": what the `&` before F comes to, in a value or not
abbrev pub found_in : Rules → Bool → List ℕ → Found
found_in rules v F = reference rules v (held_in rules.references F) (deciding_in rules.references F)

-- ---- its attributes: lists of them have the last one first

-- a reference in a value ends with the value at the latest, so the text after the value is the same as its end
abbrev pub found_in_value : Rules → AttrValueKind → List ℕ → Found
found_in_value rules kind run = found_in rules true (run ++ quote_of kind ∷ [])

-- the characters that a run of a value shows. A reference that stands before it takes the first `taken` of them.
unfoldable pub decoded : Rules → AttrValueKind → ℕ → List ℕ → List ℕ
decoded rules kind taken [] = []
decoded rules kind (suc taken) (c ∷ run) = decoded rules kind taken run
decoded rules kind zero (c ∷ run) =
    if c == ampersand then characters_in (found_in_value rules kind run) ++ decoded rules kind (found_in_value rules kind run).taken run
    else c ∷ decoded rules kind zero run

-- the bytes that a run shows
abbrev pub shown_run : Rules → AttrValueKind → List ℕ → List ℕ
shown_run rules kind run = flat_map value_bytes (decoded rules kind zero run)

-- the bytes that a value shows
abbrev pub value_shown : Rules → Value → List ℕ
value_shown rules (InDoubleQuotes run) = shown_run rules DoubleQuoted run
value_shown rules (InSingleQuotes run) = shown_run rules SingleQuoted run
value_shown rules (Bare run) = shown_run rules Unquoted run

-- the bytes of a name, in lower case
abbrev pub name_shown : ℕ → List ℕ → List ℕ
name_shown first rest = flat_map name_bytes (first ∷ rest)

-- the attributes that are written up to a part and in it
abbrev pub attributes_with : Rules → List AttributeOf → Part → List AttributeOf
attributes_with rules before (Name first rest) = attribute (name_shown first rest) [] ∷ before
attributes_with rules before (Attribute first rest space afterwards value) = attribute (name_shown first rest) (value_shown rules value) ∷ before
attributes_with rules before part = before

-- the attributes that are written up to parts and in them
unfoldable pub attributes_with_parts : Rules → List AttributeOf → List Part → List AttributeOf
attributes_with_parts rules before [] = before
attributes_with_parts rules before (part ∷ parts) = attributes_with_parts rules (attributes_with rules before part) parts

-- "Attribute name state": whether the last attribute has the name of one before it
unfoldable pub repeats : List AttributeOf → Bool
repeats [] = false
repeats (last ∷ before) = has_attribute before last.name.local

-- "Attribute name state": whether one of the attributes has the name of one before it
unfoldable pub has_repeated : List AttributeOf → Bool
has_repeated [] = false
has_repeated (last ∷ before) = repeats (last ∷ before) || has_repeated before

-- "Attribute name state": the attributes that don't have the name of one before them, in the order of the text
unfoldable pub kept : List AttributeOf → List AttributeOf
kept [] = []
kept (last ∷ before) = if repeats (last ∷ before) then kept before else kept before ++ last ∷ []

-- ---- what it tells

-- "Attribute value (double-quoted) state" and the two others: the error of a character of a value
abbrev pub value_error : Bool → AttrValueKind → ℕ → List Told
value_error exact Unquoted c = unquoted_error exact c
value_error exact kind c = null_error exact (state.AttributeValue kind) c

-- "Attribute value (double-quoted) state" and the two others: the characters of a run. The errors of a reference are sent at its
-- `&`.
unfoldable pub spell_run : Rules → AttrValueKind → ℕ → List ℕ → List Spelled
spell_run rules kind taken [] = []
spell_run rules kind (suc taken) (c ∷ run) = record { character = c; told = [] } ∷ spell_run rules kind taken run
spell_run rules kind zero (c ∷ run) =
    if c == ampersand then record { character = c; told = (found_in_value rules kind run).errors } ∷ spell_run rules kind (found_in_value rules kind run).taken run
    else record { character = c; told = value_error rules.exact kind c } ∷ spell_run rules kind zero run

-- "Before attribute value state": the characters of a value, with its quotes
abbrev pub spell_value : Rules → Value → List Spelled
spell_value rules (InDoubleQuotes run) = spell_silent (quotation_mark ∷ []) ++ (spell_run rules DoubleQuoted zero run ++ spell_silent (quotation_mark ∷ []))
spell_value rules (InSingleQuotes run) = spell_silent (apostrophe ∷ []) ++ (spell_run rules SingleQuoted zero run ++ spell_silent (apostrophe ∷ []))
spell_value rules (Bare run) = spell_run rules Unquoted zero run

-- "Attribute name state": a repeated attribute is an error where the next one begins or the tag ends
abbrev pub repeated_error : List AttributeOf → List Told
repeated_error attributes = where_true (repeats attributes) (Error (codes "Duplicate attribute"))

-- "Attribute name state": an attribute's name, with `before` written before it
abbrev pub spell_name : Bool → Place → List AttributeOf → ℕ → List ℕ → List Spelled
spell_name exact place before first rest =
    record { character = first; told = place_error exact place first ++ (first_error exact place first ++ repeated_error before) }
    ∷ spell (attribute_name_error exact) rest

-- a part, at a place
abbrev pub spell_part : Rules → Place → List AttributeOf → Part → List Spelled
spell_part rules place before (Blank c) = spell (place_error rules.exact place) (c ∷ [])
spell_part rules place before Solidus = spell (place_error rules.exact place) (solidus ∷ [])
spell_part rules place before (Name first rest) = spell_name rules.exact place before first rest
spell_part rules place before (Attribute first rest space afterwards value) =
    spell_name rules.exact place before first rest ++ ((spell_silent space ++ spell_silent (equals_sign ∷ afterwards)) ++ spell_value rules value)

-- the parts from a place on, with `before` written before them
unfoldable pub spell_parts : Rules → Place → List AttributeOf → List Part → List Spelled
spell_parts rules place before [] = []
spell_parts rules place before (part ∷ parts) =
    spell_part rules place before part ++ spell_parts rules (place_after place part) (attributes_with rules before part) parts

-- the place after parts
unfoldable pub place_after_parts : Place → List Part → Place
place_after_parts place [] = place
place_after_parts place (part ∷ parts) = place_after_parts (place_after place part) parts

-- all attributes of a tag, the last one first
abbrev pub all_attributes : Rules → WrittenTag → List AttributeOf
all_attributes rules tag = attributes_with_parts rules [] tag.parts

-- the place before the `>` of a tag
abbrev pub end_place : WrittenTag → Place
end_place tag = place_after_parts InName tag.parts

-- the tag of that name with these attributes, before its `>`
abbrev pub tag_with : TagKind → List ℕ → List AttributeOf → OpenTag
tag_with kind name attributes = record {
  kind = kind;
  name = name;
  attributes = kept attributes;
  had_duplicate_attributes = has_repeated attributes;
  last_name = [];
  last_value = [];
}

-- the tag before its `>`
abbrev pub unclosed : Rules → WrittenTag → OpenTag
unclosed rules tag = tag_with tag.kind (name_shown tag.first tag.rest) (all_attributes rules tag)

-- the tag that is sent: it closes itself where `/` stands directly before `>`
abbrev pub tag_told : Rules → WrittenTag → TagOf
tag_told rules tag = told_tag (unclosed rules tag) (is_after_solidus (end_place tag))

-- "Before attribute value state": an empty value without quotes is an error
abbrev pub end_error : Bool → Place → List Told
end_error exact BeforeValue = error_in exact state.BeforeAttributeValue equals_sign ∷ []
end_error exact place = []

-- what `>` tells before the tag
abbrev pub end_errors : Rules → WrittenTag → List Told
end_errors rules tag =
    end_error rules.exact (end_place tag)
    ++ (repeated_error (all_attributes rules tag) ++ end_tag_errors (unclosed rules tag) (is_after_solidus (end_place tag)))

-- a tag without its `>`
abbrev pub body : Rules → WrittenTag → List Spelled
body rules tag = spell_silent (opening tag.kind) ++ (spell (null_error rules.exact state.TagName) (tag.first ∷ tag.rest) ++ spell_parts rules InName [] tag.parts)

-- the characters of a tag
unfoldable pub spelled : Rules → WrittenTag → List Spelled
spelled rules tag = body rules tag ++ record { character = greater_than; told = end_errors rules tag ++ Tag (tag_told rules tag) ∷ [] } ∷ []

-- the messages of a text that is one tag
unfoldable pub tag_messages : Rules → Input → WrittenTag → List Message
tag_messages rules input tag =
    spelled_messages rules.exact input [] (spelled rules tag) ++ record { token = End; line = line_after input (written tag) } ∷ []

-- the text X, read from the start K, is this tag, written out
pub record IsTag (K : Start) (X : List ℕ) (tag : WrittenTag) : Type 0 where
  pub starts : K.opened ≡ Between Data
  pub is_tag : is_written tag ≡ true
  pub text : normalised K.input X ≡ written tag

-- ---- a tag without its `>`: the text ends between its parts, or in a value

-- "Attribute value (double-quoted) state" and the two others, at the end: whether this is a value that the text ends. One without
-- quotes has a character.
abbrev pub is_open_value : AttrValueKind → List ℕ → Bool
is_open_value Unquoted [] = false
is_open_value Unquoted (c ∷ run) = is_value (Bare (c ∷ run))
is_open_value kind run = list_all (is_in_value kind) run

-- the quote before such a value
abbrev pub open_quote : AttrValueKind → List ℕ
open_quote Unquoted = []
open_quote kind = quote_of kind ∷ []

-- whether white space, or the tag's `>`, has to stand after such a value
abbrev pub needs_stop : Place → Bool
needs_stop (InValue Unquoted) = true
needs_stop place = false

-- the characters of such a value. A reference that is not decided in the text tells nothing yet.
unfoldable pub spell_open_run : Rules → AttrValueKind → ℕ → List ℕ → List Spelled
spell_open_run rules kind taken [] = []
spell_open_run rules kind (suc taken) (c ∷ run) = record { character = c; told = [] } ∷ spell_open_run rules kind taken run
spell_open_run rules kind zero (c ∷ run) =
    if c == ampersand then (if is_none (deciding_in rules.references run) then spell_silent (c ∷ run)
    else record { character = c; told = (found_in rules true run).errors } ∷ spell_open_run rules kind (found_in rules true run).taken run)
    else record { character = c; told = value_error rules.exact kind c } ∷ spell_open_run rules kind zero run

-- what the end decides of such a reference
unfoldable pub errors_at_end : Rules → ℕ → List ℕ → List Told
errors_at_end rules taken [] = []
errors_at_end rules (suc taken) (c ∷ run) = errors_at_end rules taken run
errors_at_end rules zero (c ∷ run) =
    if c == ampersand then (if is_none (deciding_in rules.references run) then (found_in rules true run).errors
    else errors_at_end rules (found_in rules true run).taken run)
    else errors_at_end rules zero run

-- an attribute whose value is cut off by the end of the text
pub record OpenAttribute : Type 0 where
  pub first : ℕ
  pub name : List ℕ
  pub space : List ℕ
  pub afterwards : List ℕ
  pub kind : AttrValueKind
  pub run : List ℕ

-- the text of such an attribute
abbrev pub open_attribute_text : Option OpenAttribute → List ℕ
open_attribute_text None = []
open_attribute_text (Some a) = a.first ∷ a.name ++ (a.space ++ (equals_sign ∷ a.afterwards ++ (open_quote a.kind ++ a.run)))

-- the text of a tag without its `>`
unfoldable pub open_written : WrittenTag → Option OpenAttribute → List ℕ
open_written tag last = opening tag.kind ++ (tag.first ∷ tag.rest ++ (flat_map part_text tag.parts ++ open_attribute_text last))

-- whether the tag can end in this attribute, or in none
abbrev pub can_end_in : Place → Option OpenAttribute → Bool
can_end_in place None = not (needs_stop place)
can_end_in place (Some a) =
    is_attribute_name place a.first a.name && (list_all is_white_space a.space && (list_all is_white_space a.afterwards && is_open_value a.kind a.run))

-- whether this is a tag without its `>`, written out
unfoldable pub is_open_written : WrittenTag → Option OpenAttribute → Bool
is_open_written tag last = is_letter tag.first && (list_all in_tag_name tag.rest && (can_follow InName tag.parts && can_end_in (end_place tag) last))

-- the characters of such an attribute
abbrev pub spell_open_attribute : Rules → WrittenTag → Option OpenAttribute → List Spelled
spell_open_attribute rules tag None = []
spell_open_attribute rules tag (Some a) =
    spell_name rules.exact (end_place tag) (all_attributes rules tag) a.first a.name
    ++ ((spell_silent a.space ++ spell_silent (equals_sign ∷ a.afterwards)) ++ (spell_silent (open_quote a.kind) ++ spell_open_run rules a.kind zero a.run))

-- the characters of a tag without its `>`
abbrev pub spell_open_tag : Rules → WrittenTag → Option OpenAttribute → List Spelled
spell_open_tag rules tag last = body rules tag ++ spell_open_attribute rules tag last

-- "Tag name state" to "Self-closing start tag state", at the end: that is an error, and the tag is not sent
abbrev pub open_tag_at_end : Rules → WrittenTag → Option OpenAttribute → List Told
open_tag_at_end rules tag None = end_error_in rules.exact (state_at (end_place tag)) ∷ End ∷ []
open_tag_at_end rules tag (Some a) = errors_at_end rules zero a.run ++ end_error_in rules.exact (state_at (InValue a.kind)) ∷ End ∷ []

-- the text X, read from the start K, is this tag without its `>`
pub record IsOpenTag (K : Start) (X : List ℕ) (tag : WrittenTag) (last : Option OpenAttribute) : Type 0 where
  pub starts : K.opened ≡ Between Data
  pub is_open : is_open_written tag last ≡ true
  pub text : normalised K.input X ≡ open_written tag last
