-- The machine tells a tag where one ends, and no other.
use Rattle.std.proofs.Common.{◌≡◌, ℕ, Bool, true, false, List, [], ◌∷◌, ◌++◌, refl}
use Rattle.std.specs.Prelude.{◌&&◌, ◌==◌, codes, encode_utf8, map, drop, length, Option, None, Some, if◌then◌else◌}
use Rattle.html5ever_interface.specs.Token.{Told, DoctypeOf, is_tag}
use Rattle.html5ever_interface.specs.Token.Told.{Text, Comment, Doctype}
use Rattle.html5ever_interface.specs.declared.states.State.{State}
use Rattle.html5ever_interface.specs.declared.states.State.TheVariants as state
use Rattle.html5ever_interface.specs.declared.states.DoctypeIdKind.{DoctypeIdKind}
use Rattle.html5ever_interface.specs.declared.states.DoctypeIdKind.TheVariants.{Public, System}
use Rattle.html5ever_interface.specs.declared.states.RawKind.{RawKind}
use Rattle.html5ever_interface.specs.declared.states.RawKind.TheVariants as raw_kind
use Rattle.html5ever_interface.specs.declared.states.ScriptEscapeKind.TheVariants as escape_kind
use Rattle.html5ever_interface.specs.declared.states.AttrValueKind.{AttrValueKind}
use Rattle.html5ever_interface.specs.declared.states.AttrValueKind.TheVariants.{Unquoted, SingleQuoted, DoubleQuoted}
use Rattle.html5reading.specs.Cdata.{ends_cdata, told_at_end_of_cdata}
use Rattle.html5reading.specs.Characters.{null, number_sign, replacement_character, exclamation_mark, quotation_mark, ampersand, apostrophe, hyphen, solidus, less_than, equals_sign, greater_than, question_mark, is_letter, is_white_space, is_bad_character, lower_case}
use Rattle.html5reading.specs.ErrorText.{error_in, where_true, bad_character_error}
use Rattle.html5reading.specs.Reading.{Here, Brought}
use Rattle.html5reading.specs.Reference.{Found, in_value, reference, number_reference, named_reference, no_name, unended_number, has_digits, longest_name, is_ended, goes_on, first_or, is_undecided, ends_number, text_in, told_of, characters_in, held_text, late_tokens}
use Rattle.html5reading.specs.Slice.{Late, tokens_of_late}
use Rattle.html5reading.specs.Start.Stand.{InText, InAttribute}
use Rattle.markup5ever.specs.NamedReferences.{NamedReference}
use Rattle.html5reading.specs.Reading.Here.{Tells, TellsTag}
use Rattle.html5reading.specs.Start.{Raw, OpenTag, Place, RawPlace, DoctypePlace, Stand, Open, Rules, raw_of}
use Rattle.html5reading.specs.Start.Raw.{ScriptData}
use Rattle.html5reading.specs.Start.Mode.{Data, Plain, RawText, Cdata}
use Rattle.html5reading.specs.Start.RawPlace.{AfterLessThan, InEndName, AfterMark, AfterMarkAndDash, InSwitch}
use Rattle.html5reading.specs.Start.Place.{InName, BeforeAttribute, InAttributeName, AfterAttributeName, BeforeValue, InValue, AfterQuotedValue, AfterSolidus}
use Rattle.html5reading.specs.Start.DoctypePlace.{AfterWord, BeforeName, InDoctypeName, AfterName, AfterKeyword, BeforeIdentifier, InIdentifier, AfterIdentifier, BetweenIdentifiers, Skipped}
use Rattle.html5reading.specs.Start.Open.{Between, LessThan, LessThanSolidus, InTag, InRaw, InDeclaration, InComment, InBogusComment, InInstruction, InDoctype, InDoctypeKeyword, InReference, InCdata}
use Rattle.html5reading.specs.Tag.{null_error, duplicate_error, end_tag_errors, with_last_attribute, in_quoted, in_unquoted, unquoted_error, in_attribute_name, place_error, first_error, in_tag_name}
use Rattle.std.specs.Str.{bytes_eq}
use Rattle.html5reading.specs.Comment.{comment_state, ends_comment, comment_content, comment_end_error, comment_errors, mark_error, begins_keyword, without_last, cdata_keyword, begins_cdata}
use Rattle.html5reading.specs.Doctype.{with_quirks, in_identifier, is_keyword, begins_doctype_keyword, keyword_error, in_doctype_name, word_error}
use Rattle.html5reading.specs.RawText.{texts, ends_name, raw_state, kind_of, is_rcdata, raw_character, ends_raw_text, told_at_less_than, told_after_less_than, begins_mark, begins_switch}
use Rattle.html5reading.specs.Text.{plain_text}
use Rattle.html5reading.specs.Machine.{closing_step, tag_name_step, part_step, attribute_name_step, after_attribute_name_step, quoted_step, unquoted_step, before_value_step, tag_step, data_step, less_than_step, solidus_step, bogus_comment_step, comment_step, instruction_step, skipped_step, wanted_name_step, doctype_name_step, keyword_or_end_step, wanted_identifier_step, system_or_end_step, identifier_step, after_identifier_step, space_step, doctype_step, declaration_step, doctype_keyword_step, raw_step, tag_name_end_step, end_name_step, switch_step, mark_step, mark_and_dash_step, raw_solidus_step, raw_less_than_step, raw_place_step, step_at, reference_step, brought_at, cdata_step, declaration_answer_step}

unfoldable pub NoTags : List Told → Type 0
NoTags [] = Unit {0}
NoTags (t ∷ ts) = (is_tag t ≡ false) × NoTags ts

-- no tag is sent before the one that ends
unfoldable pub NoTagsHere : Here Open → Type 0
NoTagsHere (Tells told later) = NoTags told
NoTagsHere (TellsTag told tag) = NoTags told

pub no_tags-append : (ts us : List Told) → NoTags ts → NoTags us → NoTags (ts ++ us)
unfolding NoTags
no_tags-append [] us f g = g
no_tags-append (t ∷ ts) us f g = (f.0, no_tags-append ts us f.1 g)

no_tags-where : (holds : Bool) (error : Told) → is_tag error ≡ false → NoTags (where_true holds error)
unfolding NoTags
no_tags-where true error h = (h, tt)
no_tags-where false error h = tt

pub no_tags-texts : (characters : List ℕ) → NoTags (map (λ (c : ℕ). Text (encode_utf8 c)) characters)
unfolding NoTags
no_tags-texts [] = tt
no_tags-texts (c ∷ characters) = (refl, no_tags-texts characters)

pub no_tags-told_after : (kind : RawKind) → NoTags (told_after_less_than kind)
unfolding NoTags
no_tags-told_after raw_kind.Rcdata = (refl, tt)
no_tags-told_after raw_kind.Rawtext = (refl, tt)
no_tags-told_after raw_kind.ScriptData = (refl, tt)
no_tags-told_after (raw_kind.ScriptDataEscaped escape_kind.Escaped) = (refl, tt)
no_tags-told_after (raw_kind.ScriptDataEscaped escape_kind.DoubleEscaped) = tt

no_tags-raw_solidus : (kind : RawKind) (name : List ℕ) → NoTagsHere (raw_solidus_step kind name)
unfolding raw_solidus_step NoTagsHere NoTags
no_tags-raw_solidus raw_kind.Rcdata name = tt
no_tags-raw_solidus raw_kind.Rawtext name = tt
no_tags-raw_solidus raw_kind.ScriptData name = tt
no_tags-raw_solidus (raw_kind.ScriptDataEscaped escape_kind.Escaped) name = tt
no_tags-raw_solidus (raw_kind.ScriptDataEscaped escape_kind.DoubleEscaped) name = (refl, tt)

no_tags-if : (test : Bool) (p q : Here Open) → NoTagsHere p → NoTagsHere q → NoTagsHere (if test then p else q)
no_tags-if true p q f g = f
no_tags-if false p q f g = g

pub no_tags-bad : (exact : Bool) (c : ℕ) → NoTags (bad_character_error exact c)
no_tags-bad exact c = no_tags-where (exact && is_bad_character c) _ refl

no_tags-duplicate : (tag : OpenTag) → NoTags (duplicate_error tag)
unfolding duplicate_error
no_tags-duplicate tag = no_tags-where _ _ refl

no_tags-end_tag : (tag : OpenTag) (self_closing : Bool) → NoTags (end_tag_errors tag self_closing)
unfolding end_tag_errors
no_tags-end_tag tag self_closing = no_tags-append _ _ (no_tags-where _ _ refl) (no_tags-where _ _ refl)

module _ (exact : Bool) (c : ℕ) where
  no_tags-place : (place : Place) → NoTags (place_error exact place c)
  unfolding place_error NoTags
  no_tags-place InName = tt
  no_tags-place BeforeAttribute = tt
  no_tags-place InAttributeName = tt
  no_tags-place AfterAttributeName = tt
  no_tags-place BeforeValue = tt
  no_tags-place (InValue kind) = tt
  no_tags-place AfterQuotedValue = no_tags-where _ _ refl
  no_tags-place AfterSolidus = no_tags-where _ _ refl

  no_tags-first : (place : Place) → NoTags (first_error exact place c)
  unfolding first_error
  no_tags-first AfterAttributeName = no_tags-where _ _ refl
  no_tags-first other = no_tags-where _ _ refl

  no_tags-closing : (errors : List Told) (tag : OpenTag) (self_closing : Bool) → NoTags errors → NoTagsHere (closing_step errors tag self_closing)
  unfolding closing_step NoTagsHere
  no_tags-closing errors tag self_closing f =
      no_tags-append errors _ f (no_tags-append _ _ (no_tags-duplicate tag) (no_tags-end_tag (with_last_attribute tag) self_closing))

  no_tags-tag_name : (tag : OpenTag) → NoTagsHere (tag_name_step exact tag c)
  unfolding tag_name_step NoTagsHere NoTags
  no_tags-tag_name tag =
      no_tags-if (in_tag_name c) _ _ (no_tags-where _ _ refl) (no_tags-if (is_white_space c) _ _ tt (no_tags-if (c == solidus) _ _ tt (no_tags-closing [] tag false tt)))

  no_tags-part : (place : Place) (tag : OpenTag) → NoTagsHere (part_step exact place tag c)
  unfolding part_step NoTagsHere
  no_tags-part place tag =
      no_tags-if (c == greater_than) _ _ (no_tags-closing _ tag _ (no_tags-place place))
      (no_tags-if (is_white_space c) _ _ (no_tags-place place) (no_tags-if (c == solidus) _ _ (no_tags-place place)
      (no_tags-append _ _ (no_tags-place place) (no_tags-append _ _ (no_tags-first place) (no_tags-duplicate tag)))))

  no_tags-attribute_name : (tag : OpenTag) → NoTagsHere (attribute_name_step exact tag c)
  unfolding attribute_name_step NoTagsHere NoTags
  no_tags-attribute_name tag =
      no_tags-if (in_attribute_name c) _ _ (no_tags-where _ _ refl)
      (no_tags-if (is_white_space c) _ _ tt (no_tags-if (c == solidus) _ _ tt (no_tags-if (c == equals_sign) _ _ tt (no_tags-closing [] tag false tt))))

  no_tags-unquoted : (tag : OpenTag) → NoTagsHere (unquoted_step exact tag c)
  unfolding unquoted_step unquoted_error NoTagsHere NoTags
  no_tags-unquoted tag =
      no_tags-if (in_unquoted c) _ _ (no_tags-where _ _ refl)
      (no_tags-if (c == ampersand) _ _ tt (no_tags-if (c == greater_than) _ _ (no_tags-closing [] tag false tt) tt))

  no_tags-quoted : (kind : AttrValueKind) (tag : OpenTag) → NoTagsHere (quoted_step exact kind tag c)
  unfolding quoted_step NoTagsHere NoTags
  no_tags-quoted kind tag = no_tags-if (in_quoted kind c) _ _ (no_tags-where _ _ refl) (no_tags-if (c == ampersand) _ _ tt tt)

  no_tags-data : (before : List Told) → NoTags before → NoTagsHere (data_step exact before c)
  unfolding data_step NoTagsHere NoTags
  no_tags-data before f =
      no_tags-if (c == less_than) _ _ f (no_tags-if (c == ampersand) _ _ f (no_tags-if (c == null) _ _ (no_tags-append before _ f (refl, (refl, tt))) (no_tags-append before _ f (refl, tt))))

  pub no_tags-plain_text : NoTags (plain_text exact c)
  unfolding plain_text NoTags
  no_tags-plain_text = elim (c == null) as (λ b. NoTags (if b then error_in exact state.Plaintext c ∷ Text (encode_utf8 replacement_character) ∷ [] else Text (encode_utf8 c) ∷ [])) [
    | true ↦ (refl, (refl, tt))
    | false ↦ (refl, tt)
  ]

  -- a step in a tag tells no tag but the one that it ends
  no_tags-tag : (place : Place) (tag : OpenTag) → NoTagsHere (tag_step exact place tag c)
  unfolding tag_step before_value_step after_attribute_name_step NoTagsHere NoTags
  no_tags-tag InName tag = no_tags-tag_name tag
  no_tags-tag BeforeAttribute tag = no_tags-part BeforeAttribute tag
  no_tags-tag InAttributeName tag = no_tags-attribute_name tag
  no_tags-tag AfterAttributeName tag = no_tags-if (is_white_space c) _ _ tt (no_tags-if (c == equals_sign) _ _ tt (no_tags-part AfterAttributeName tag))
  no_tags-tag BeforeValue tag =
      no_tags-if (is_white_space c) _ _ tt (no_tags-if (c == quotation_mark) _ _ tt (no_tags-if (c == apostrophe) _ _ tt
      (no_tags-if (c == greater_than) _ _ (no_tags-closing _ tag false (refl, tt)) (no_tags-unquoted tag))))
  no_tags-tag (InValue Unquoted) tag = no_tags-unquoted tag
  no_tags-tag (InValue SingleQuoted) tag = no_tags-quoted SingleQuoted tag
  no_tags-tag (InValue DoubleQuoted) tag = no_tags-quoted DoubleQuoted tag
  no_tags-tag AfterQuotedValue tag = no_tags-part AfterQuotedValue tag
  no_tags-tag AfterSolidus tag = no_tags-part AfterSolidus tag

  no_tags-raw_character : (raw : Raw) → NoTags (raw_character exact raw c)
  unfolding raw_character NoTags
  no_tags-raw_character raw = elim (c == null) as (λ b. NoTags (if b then error_in exact (raw_state raw) c ∷ Text (encode_utf8 replacement_character) ∷ [] else Text (encode_utf8 c) ∷ [])) [
    | true ↦ (refl, (refl, tt))
    | false ↦ (refl, tt)
  ]

  no_tags-less_than : (kind : RawKind) → NoTags (told_at_less_than kind)
  unfolding NoTags
  no_tags-less_than raw_kind.Rcdata = tt
  no_tags-less_than raw_kind.Rawtext = tt
  no_tags-less_than raw_kind.ScriptData = tt
  no_tags-less_than (raw_kind.ScriptDataEscaped escape_kind.Escaped) = tt
  no_tags-less_than (raw_kind.ScriptDataEscaped escape_kind.DoubleEscaped) = (refl, tt)

  no_tags-raw : (raw : Raw) (name : List ℕ) (before : List Told) → NoTags before → NoTagsHere (raw_step exact raw name before c)
  unfolding raw_step NoTagsHere
  no_tags-raw raw name before f =
      no_tags-if (c == less_than) _ _ (no_tags-append before _ f (no_tags-less_than (kind_of raw)))
      (no_tags-if (is_rcdata raw && (c == ampersand)) _ _ f (no_tags-append before _ f (no_tags-raw_character raw)))

  no_tags-bogus_comment : (before : List ℕ) (first : List Told) → NoTags first → NoTagsHere (bogus_comment_step exact before first c)
  unfolding bogus_comment_step NoTagsHere NoTags
  no_tags-bogus_comment before first f =
      no_tags-if (c == greater_than) _ _ (no_tags-append first _ f (refl, tt)) (no_tags-append first _ f (no_tags-where _ _ refl))

  no_tags-cdata : (held : List ℕ) → NoTagsHere (cdata_step held c)
  unfolding cdata_step NoTagsHere NoTags
  no_tags-cdata held =
      no_tags-if ((c == greater_than) && ends_cdata held) (Tells (told_at_end_of_cdata held) (Between Data)) _ (no_tags-texts (without_last 2 held))
      (no_tags-if (c == null) _ _ (no_tags-append (texts held) _ (no_tags-texts held) (refl, tt)) tt)

  no_tags-comment : (before : List ℕ) → NoTagsHere (comment_step exact before c)
  unfolding comment_step comment_end_error comment_errors mark_error NoTagsHere NoTags
  no_tags-comment before =
      no_tags-if ((c == greater_than) && ends_comment before) _ _ (no_tags-append (comment_end_error exact before) (Comment (comment_content before) ∷ []) (no_tags-where _ _ refl) (refl, tt))
      (no_tags-append (mark_error exact before c) (null_error exact (comment_state state.Comment before) c) (no_tags-where _ _ refl) (no_tags-where _ _ refl))

  no_tags-skipped : (errors : List Told) (d : DoctypeOf) → NoTags errors → NoTagsHere (skipped_step exact errors d c)
  unfolding skipped_step NoTagsHere NoTags
  no_tags-skipped errors d f =
      no_tags-if (c == greater_than) _ _ (no_tags-append errors (Doctype d ∷ []) f (refl, tt)) (no_tags-append errors _ f (no_tags-where _ _ refl))

  no_tags-wanted_name : (errors : List Told) (d : DoctypeOf) → NoTags errors → NoTagsHere (wanted_name_step exact errors d c)
  unfolding wanted_name_step NoTagsHere NoTags
  no_tags-wanted_name errors d f =
      no_tags-if (c == greater_than) _ _ (no_tags-append errors _ f (refl, (refl, tt))) (no_tags-append errors _ f (no_tags-where _ _ refl))

  no_tags-wanted_identifier : (is_direct : Bool) (named : State) (kind : DoctypeIdKind) (d : DoctypeOf) → NoTagsHere (wanted_identifier_step exact is_direct named kind d c)
  unfolding wanted_identifier_step NoTagsHere NoTags
  no_tags-wanted_identifier is_direct named kind d =
      no_tags-if (c == quotation_mark) _ _ (no_tags-where is_direct (error_in exact named c) refl)
      (no_tags-if (c == apostrophe) _ _ (no_tags-where is_direct (error_in exact named c) refl)
      (no_tags-skipped (error_in exact named c ∷ []) (with_quirks d) (refl, tt)))

  no_tags-system_or_end : (is_direct : Bool) (named : State) (d : DoctypeOf) → NoTagsHere (system_or_end_step exact is_direct named d c)
  unfolding system_or_end_step NoTagsHere NoTags
  no_tags-system_or_end is_direct named d = no_tags-if (c == greater_than) _ _ (refl, tt) (no_tags-wanted_identifier is_direct named System d)

  no_tags-after_identifier : (kind : DoctypeIdKind) (d : DoctypeOf) → NoTagsHere (after_identifier_step exact kind d c)
  unfolding after_identifier_step NoTagsHere NoTags
  no_tags-after_identifier Public d = no_tags-if (is_white_space c) _ _ tt (no_tags-system_or_end true (state.AfterDoctypeIdentifier Public) d)
  no_tags-after_identifier System d =
      no_tags-if (is_white_space c) _ _ tt (no_tags-if (c == greater_than) _ _ (refl, tt) (no_tags-skipped _ d (refl, tt)))

  no_tags-space : (place : DoctypePlace) (d : DoctypeOf) (next : Here Open) → NoTagsHere next → NoTagsHere (space_step place d c next)
  unfolding space_step NoTagsHere NoTags
  no_tags-space place d next f = no_tags-if (is_white_space c) (Tells [] (InDoctype place d)) next tt f

  -- a step in a doctype tells no tag
  no_tags-doctype : (place : DoctypePlace) (d : DoctypeOf) → NoTagsHere (doctype_step exact place d c)
  unfolding doctype_step doctype_name_step keyword_or_end_step identifier_step NoTagsHere NoTags
  no_tags-doctype AfterWord d = no_tags-space _ d _ (no_tags-wanted_name (word_error exact c) d (no_tags-where _ _ refl))
  no_tags-doctype BeforeName d = no_tags-space _ d _ (no_tags-wanted_name [] d tt)
  no_tags-doctype InDoctypeName d =
      no_tags-if (in_doctype_name c) _ _ (no_tags-where _ _ refl) (no_tags-if (c == greater_than) _ _ (refl, tt) tt)
  no_tags-doctype AfterName d =
      no_tags-space _ d _ (no_tags-if (c == greater_than) _ _ (refl, tt) (no_tags-if (begins_doctype_keyword (c ∷ [])) _ _ tt (no_tags-skipped _ _ (refl, tt))))
  no_tags-doctype (AfterKeyword kind) d = no_tags-space _ d _ (no_tags-wanted_identifier true (state.AfterDoctypeKeyword kind) kind d)
  no_tags-doctype (BeforeIdentifier kind) d = no_tags-space _ d _ (no_tags-wanted_identifier false (state.BeforeDoctypeIdentifier kind) kind d)
  no_tags-doctype (InIdentifier quotes kind) d =
      no_tags-if (in_identifier quotes c) _ _ (no_tags-where _ _ refl) (no_tags-if (c == greater_than) _ _ (refl, (refl, tt)) tt)
  no_tags-doctype (AfterIdentifier kind) d = no_tags-after_identifier kind d
  no_tags-doctype BetweenIdentifiers d = no_tags-space _ d _ (no_tags-system_or_end false state.BetweenDoctypePublicAndSystemIdentifiers d)
  no_tags-doctype Skipped d = no_tags-skipped [] d tt

  no_tags-tag_name_end : (tag : OpenTag) → NoTagsHere (tag_name_end_step tag c)
  unfolding tag_name_end_step NoTagsHere NoTags
  no_tags-tag_name_end tag =
      no_tags-if (is_white_space c) _ _ tt (no_tags-if (c == solidus) _ _ tt (no_tags-closing [] tag false tt))

  no_tags-after_less_than : (kind : RawKind) (name : List ℕ) → NoTagsHere (raw_less_than_step exact kind name c)
  unfolding raw_less_than_step raw_solidus_step begins_mark begins_switch NoTagsHere NoTags
  no_tags-after_less_than kind name =
      no_tags-if (c == solidus) _ _ (no_tags-raw_solidus kind name)
      (no_tags-if (begins_mark kind c) _ _ (refl, (refl, tt)) (no_tags-if (begins_switch kind c) _ _ (refl, (refl, tt))
      (no_tags-raw (raw_of kind) name _ (no_tags-told_after kind))))

  no_tags-raw_place : (place : RawPlace) (name : List ℕ) → NoTagsHere (raw_place_step exact place name c)
  unfolding raw_place_step end_name_step switch_step mark_step mark_and_dash_step NoTagsHere NoTags
  no_tags-raw_place (AfterLessThan kind) name = no_tags-after_less_than kind name
  no_tags-raw_place (InEndName kind letters) name =
      no_tags-if (is_letter c) _ _ tt (no_tags-if (ends_raw_text name letters c) _ _ (no_tags-tag_name_end _) (no_tags-raw (raw_of kind) name _ (no_tags-texts (less_than ∷ solidus ∷ letters))))
  no_tags-raw_place AfterMark name = no_tags-if (c == hyphen) _ _ (refl, tt) (no_tags-raw ScriptData name [] tt)
  no_tags-raw_place AfterMarkAndDash name = no_tags-if (c == hyphen) _ _ (refl, tt) (no_tags-raw ScriptData name [] tt)
  no_tags-raw_place (InSwitch kind letters) name =
      no_tags-if (is_letter c) _ _ (refl, tt) (no_tags-if (ends_name c) _ _ (refl, tt) (no_tags-raw (raw_of (raw_kind.ScriptDataEscaped kind)) name [] tt))

  -- when nothing is undecided a step tells no tag before the one that ends
  pub no_tags-step_at : (opened : Open) → NoTagsHere (step_at exact opened c)
  unfolding step_at less_than_step solidus_step instruction_step NoTagsHere NoTags
  no_tags-step_at (Between Data) = no_tags-data [] tt
  no_tags-step_at (Between Plain) = no_tags-plain_text
  no_tags-step_at (Between Cdata) = no_tags-cdata []
  no_tags-step_at (Between (RawText raw name)) = no_tags-raw raw name [] tt
  no_tags-step_at LessThan =
      no_tags-if (is_letter c) _ _ (no_tags-tag_name _) (no_tags-if (c == solidus) _ _ tt
      (no_tags-if (c == exclamation_mark) _ _ tt (no_tags-if (c == question_mark) _ _ tt (no_tags-data _ (refl, (refl, tt))))))
  no_tags-step_at LessThanSolidus =
      no_tags-if (is_letter c) _ _ (no_tags-tag_name _) (no_tags-if (c == greater_than) _ _ (refl, tt) (no_tags-bogus_comment [] _ (refl, tt)))
  no_tags-step_at (InTag place tag) = no_tags-tag place tag
  no_tags-step_at (InRaw place name) = no_tags-raw_place place name
  no_tags-step_at (InDeclaration held) = tt
  no_tags-step_at (InComment before) = no_tags-comment before
  no_tags-step_at (InBogusComment before) = no_tags-bogus_comment before [] tt
  no_tags-step_at (InInstruction before) = no_tags-if (c == greater_than) _ _ (refl, tt) (no_tags-where _ _ refl)
  no_tags-step_at (InDoctype place d) = no_tags-doctype place d
  no_tags-step_at (InDoctypeKeyword held d) = tt
  no_tags-step_at (InCdata held) = no_tags-cdata held
  no_tags-step_at (InReference stand held) = tt

-- what is decided late is text, or an error

no_tags-found : (test : Bool) (p q : Found) → NoTags p.errors → NoTags q.errors → NoTags (if test then p else q).errors
no_tags-found true p q f g = f
no_tags-found false p q f g = g

no_tags-unended : (next : Option ℕ) → NoTags (unended_number next)
unfolding unended_number NoTags
no_tags-unended None = (refl, tt)
no_tags-unended (Some c) = no_tags-where _ _ refl

no_tags-number : (exact : Bool) (text : List ℕ) (next : Option ℕ) → NoTags (number_reference exact text next).errors
unfolding number_reference NoTags
no_tags-number exact text next =
    no_tags-found (has_digits text) _ _ (no_tags-append _ _ (no_tags-unended next) (no_tags-where _ _ refl)) (refl, tt)

no_tags-no_name : (exact : Bool) (held : List ℕ) (next : Option ℕ) → NoTags (no_name exact held next).errors
unfolding no_name NoTags
no_tags-no_name exact [] next = tt
no_tags-no_name exact (c ∷ held) None = tt
no_tags-no_name exact (c ∷ held) (Some d) = no_tags-where _ _ refl

no_tags-named : (exact in_value : Bool) (held : List ℕ) (next : Option ℕ) (entry : Option NamedReference) → NoTags (named_reference exact in_value held next entry).errors
unfolding named_reference NoTags
no_tags-named exact in_value held next None = no_tags-no_name exact held next
no_tags-named exact in_value held next (Some entry) =
    no_tags-found (is_ended entry.name) _ _ tt (no_tags-found (in_value && goes_on (first_or (drop (length entry.name) held) next)) _ _ tt (refl, tt))

no_tags-reference : (rules : Rules) (in_value : Bool) (held : List ℕ) (next : Option ℕ) → NoTags (reference rules in_value held next).errors
unfolding reference NoTags
no_tags-reference rules in_value [] next = tt
no_tags-reference rules in_value (c ∷ held) next =
    no_tags-found (c == number_sign) _ _ (no_tags-number rules.exact held next)
    (no_tags-named rules.exact in_value (c ∷ held) next (longest_name rules.references (c ∷ held)))

no_tags-text_in : (stand : Stand) (characters : List ℕ) → NoTags (text_in stand characters)
unfolding NoTags
no_tags-text_in (InText mode) characters = no_tags-texts characters
no_tags-text_in (InAttribute kind tag) characters = tt

no_tags-late_append : (l m : List Late) → NoTags (tokens_of_late l) → NoTags (tokens_of_late m) → NoTags (tokens_of_late (l ++ m))
unfolding NoTags
no_tags-late_append [] m f g = g
no_tags-late_append (x ∷ l) m f g = (f.0, no_tags-late_append l m f.1 g)

no_tags-late_map : (back : ℕ) (is_at is_held : Bool) (tokens : List Told) → NoTags tokens
    → NoTags (tokens_of_late (map (λ token. record { token = token; back = back; is_at = is_at; is_held = is_held }) tokens))
unfolding NoTags
no_tags-late_map back is_at is_held [] f = tt
no_tags-late_map back is_at is_held (t ∷ tokens) f = (f.0, no_tags-late_map back is_at is_held tokens f.1)

no_tags-held_text : (stand : Stand) (held : List ℕ) → NoTags (tokens_of_late (held_text stand held))
unfolding held_text NoTags
no_tags-held_text stand [] = tt
no_tags-held_text stand (c ∷ held) =
    no_tags-late_append _ _ (no_tags-late_map _ _ _ (text_in stand (c ∷ [])) (no_tags-text_in stand (c ∷ []))) (no_tags-held_text stand held)

pub no_tags-late_tokens : (rules : Rules) (stand : Stand) (held : List ℕ) (next : Option ℕ)
    → NoTags (tokens_of_late (late_tokens stand (reference rules (in_value stand) held next) held))
no_tags-late_tokens rules stand held next =
    let found : Found = reference rules (in_value stand) held next in
    no_tags-late_append _ _
    (no_tags-late_map _ _ _ (told_of stand found) (no_tags-append _ _ (no_tags-reference rules (in_value stand) held next) (no_tags-text_in stand (characters_in found))))
    (no_tags-held_text stand (drop found.taken held))

no_tags-brought : (test : Bool) (p q : Brought Open) → NoTags (tokens_of_late p.settled) → NoTags (tokens_of_late q.settled)
    → NoTags (tokens_of_late (if test then p else q).settled)
no_tags-brought true p q f g = f
no_tags-brought false p q f g = g

no_tags-answer : (exact foreign : Bool) (held : List ℕ) (c : ℕ) → NoTags (tokens_of_late (declaration_answer_step exact foreign held c).settled)
unfolding declaration_answer_step NoTags
no_tags-answer exact foreign held c =
    no_tags-brought (foreign && bytes_eq (held ++ c ∷ []) cdata_keyword) _ _ tt
    (no_tags-brought (foreign && begins_cdata (held ++ c ∷ [])) _ _ tt (refl, tt))

no_tags-declaration : (exact foreign : Bool) (held : List ℕ) (c : ℕ) → NoTags (tokens_of_late (declaration_step exact foreign held c).settled)
unfolding declaration_step NoTags
no_tags-declaration exact foreign held c =
    no_tags-brought (bytes_eq (held ++ c ∷ []) (codes "--")) _ _ tt
    (no_tags-brought (bytes_eq (lower_case (held ++ c ∷ [])) (codes "doctype")) _ _ tt
    (no_tags-brought (begins_keyword (held ++ c ∷ [])) _ _ tt (no_tags-answer exact foreign held c)))

pub no_tags-keyword_error : (exact : Bool) (held : List ℕ) → NoTags (tokens_of_late (keyword_error exact held))
unfolding keyword_error NoTags
no_tags-keyword_error exact [] = tt
no_tags-keyword_error exact (c ∷ held) = (refl, tt)

no_tags-doctype_keyword : (exact : Bool) (held : List ℕ) (d : DoctypeOf) (c : ℕ) → NoTags (tokens_of_late (doctype_keyword_step exact held d c).settled)
unfolding doctype_keyword_step NoTags
no_tags-doctype_keyword exact held d c =
    no_tags-brought (is_keyword Public (held ++ c ∷ [])) _ _ tt
    (no_tags-brought (is_keyword System (held ++ c ∷ [])) _ _ tt
    (no_tags-brought (begins_doctype_keyword (held ++ c ∷ [])) _ _ tt (no_tags-keyword_error exact held)))

-- what a character settles of a reference or a keyword has no tag
pub no_tags-settled : (rules : Rules) (foreign : Bool) (opened : Open) (c : ℕ) → NoTags (tokens_of_late (brought_at rules foreign opened c).settled)
unfolding brought_at reference_step NoTags
no_tags-settled rules foreign (Between mode) c = tt
no_tags-settled rules foreign LessThan c = tt
no_tags-settled rules foreign LessThanSolidus c = tt
no_tags-settled rules foreign (InTag place tag) c = tt
no_tags-settled rules foreign (InRaw place name) c = tt
no_tags-settled rules foreign (InDeclaration held) c = no_tags-declaration rules.exact foreign held c
no_tags-settled rules foreign (InComment before) c = tt
no_tags-settled rules foreign (InBogusComment before) c = tt
no_tags-settled rules foreign (InInstruction before) c = tt
no_tags-settled rules foreign (InDoctype place d) c = tt
no_tags-settled rules foreign (InDoctypeKeyword held d) c = no_tags-doctype_keyword rules.exact held d c
no_tags-settled rules foreign (InCdata held) c = tt
no_tags-settled rules foreign (InReference stand held) c =
    no_tags-brought (is_undecided rules.references (held ++ c ∷ [])) _ _ tt
    (no_tags-brought (ends_number held c) _ _ (no_tags-late_tokens rules stand held (Some c)) (no_tags-late_tokens rules stand held (Some c)))
