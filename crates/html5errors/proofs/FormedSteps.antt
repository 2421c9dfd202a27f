-- The errors that each character tells, in each state, are of the three forms.
use Rattle.std.proofs.Common.{ℕ, Bool, true, false, List, [], ◌∷◌, refl}
use Rattle.std.specs.Prelude.{◌&&◌, ◌==◌, if◌then◌else◌}
use Rattle.html5ever_interface.specs.Message.{fixed_text}
use Rattle.html5ever_interface.specs.Token.{Told, DoctypeOf}
use Rattle.html5ever_interface.specs.Token.Told.{Comment, Doctype}
use Rattle.html5ever_interface.specs.declared.states.State.{State}
use Rattle.html5ever_interface.specs.declared.states.State.TheVariants as state
use Rattle.html5ever_interface.specs.declared.states.DoctypeIdKind.{DoctypeIdKind}
use Rattle.html5ever_interface.specs.declared.states.DoctypeIdKind.TheVariants.{Public, System}
use Rattle.html5ever_interface.specs.declared.states.RawKind.{RawKind}
use Rattle.html5ever_interface.specs.declared.states.RawKind.TheVariants as raw_kind
use Rattle.html5ever_interface.specs.declared.states.ScriptEscapeKind.TheVariants as escape_kind
use Rattle.html5ever_interface.specs.declared.states.AttrValueKind.{AttrValueKind}
use Rattle.html5ever_interface.specs.declared.states.AttrValueKind.TheVariants.{Unquoted, SingleQuoted, DoubleQuoted}
use Rattle.html5ever_interface.specs.declared.interface.token.TagKind.TheVariants.{StartTag, EndTag}
use Rattle.html5reading.specs.Cdata.{ends_cdata, told_at_end_of_cdata}
use Rattle.html5reading.specs.Characters.{null, exclamation_mark, quotation_mark, ampersand, apostrophe, hyphen, solidus, less_than, equals_sign, greater_than, question_mark, is_letter, is_white_space}
use Rattle.html5reading.specs.ErrorText.{error_in}
use Rattle.html5reading.specs.Reading.{Here}
use Rattle.html5reading.specs.Reading.Here.{Tells, TellsTag}
use Rattle.html5reading.specs.Start.{Raw, OpenTag, Place, RawPlace, DoctypePlace, Open, raw_of, begun}
use Rattle.html5reading.specs.Start.Raw.{ScriptData}
use Rattle.html5reading.specs.Start.Mode.{Data, Plain, RawText, Cdata}
use Rattle.html5reading.specs.Start.RawPlace.{AfterLessThan, InEndName, AfterMark, AfterMarkAndDash, InSwitch}
use Rattle.html5reading.specs.Start.Place.{InName, BeforeAttribute, InAttributeName, AfterAttributeName, BeforeValue, InValue, AfterQuotedValue, AfterSolidus}
use Rattle.html5reading.specs.Start.DoctypePlace.{AfterWord, BeforeName, InDoctypeName, AfterName, AfterKeyword, BeforeIdentifier, InIdentifier, AfterIdentifier, BetweenIdentifiers, Skipped}
use Rattle.html5reading.specs.Start.Open.{Between, LessThan, LessThanSolidus, InTag, InRaw, InDeclaration, InComment, InBogusComment, InInstruction, InDoctype, InDoctypeKeyword, InReference, InCdata}
use Rattle.html5reading.specs.Tag.{null_error, duplicate_error, end_tag_errors, with_last_attribute, in_quoted, in_unquoted, unquoted_error, in_attribute_name, place_error, first_error, in_tag_name, with_name}
use Rattle.html5reading.specs.Comment.{comment_state, ends_comment, comment_content, comment_end_error, comment_errors, mark_error, without_last}
use Rattle.html5reading.specs.Doctype.{identifier_state, with_quirks, in_identifier, begins_doctype_keyword, in_doctype_name, word_error}
use Rattle.html5reading.specs.RawText.{ends_name, raw_state, kind_of, is_rcdata, raw_character, ends_raw_text, told_at_less_than, told_after_less_than, begins_mark, begins_switch, texts}
use Rattle.html5reading.specs.Text.{plain_text}
use Rattle.html5reading.specs.Machine.{closing_step, tag_name_step, part_step, attribute_name_step, after_attribute_name_step, quoted_step, unquoted_step, before_value_step, tag_step, data_step, less_than_step, solidus_step, bogus_comment_step, comment_step, instruction_step, skipped_step, wanted_name_step, doctype_name_step, keyword_or_end_step, wanted_identifier_step, system_or_end_step, identifier_step, after_identifier_step, space_step, doctype_step, raw_step, tag_name_end_step, end_name_step, switch_step, mark_step, mark_and_dash_step, raw_solidus_step, raw_less_than_step, raw_place_step, step_at, cdata_step}
use Rattle.html5ever_interface.specs.declared.interface.message.FixedMessage.TheVariants as fixed
use Rattle.html5errors.proofs.Formed.{AllFormed, formed-append, formed-error, formed-nil, formed-texts, formed-where, formed-where_fixed, saw-form}

unfoldable pub FormedHere : Bool → Here Open → Type 0
FormedHere exact (Tells told later) = AllFormed exact told
FormedHere exact (TellsTag told tag) = AllFormed exact told

-- a choice of two steps whose errors are formed
formed-if : (exact test : Bool) (p q : Here Open) → FormedHere exact p → FormedHere exact q → FormedHere exact (if test then p else q)
formed-if exact true p q f g = f
formed-if exact false p q f g = g

module _ (exact : Bool) (c : ℕ) where
  here-nil : (later : Open) → FormedHere exact (Tells [] later)
  unfolding FormedHere
  here-nil later = formed-nil exact

  formed-duplicate : (tag : OpenTag) → AllFormed exact (duplicate_error tag)
  unfolding duplicate_error
  formed-duplicate tag = formed-where_fixed exact _ fixed.DuplicateAttribute (fixed_text fixed.DuplicateAttribute) refl

  formed-end_tag : (tag : OpenTag) (self_closing : Bool) → AllFormed exact (end_tag_errors tag self_closing)
  unfolding end_tag_errors
  formed-end_tag tag self_closing =
      formed-append exact _ _ (formed-where_fixed exact _ fixed.AttributesOnEndTag (fixed_text fixed.AttributesOnEndTag) refl) (formed-where_fixed exact _ fixed.SelfClosingEndTag (fixed_text fixed.SelfClosingEndTag) refl)

  formed-place : (place : Place) → AllFormed exact (place_error exact place c)
  unfolding place_error
  formed-place InName = formed-nil exact
  formed-place BeforeAttribute = formed-nil exact
  formed-place InAttributeName = formed-nil exact
  formed-place AfterAttributeName = formed-nil exact
  formed-place BeforeValue = formed-nil exact
  formed-place (InValue kind) = formed-nil exact
  formed-place AfterQuotedValue = formed-where exact _ state.AfterAttributeValueQuoted c
  formed-place AfterSolidus = formed-where exact _ state.SelfClosingStartTag c

  formed-first_error : (place : Place) → AllFormed exact (first_error exact place c)
  unfolding first_error
  formed-first_error AfterAttributeName = formed-where exact _ state.AfterAttributeName c
  formed-first_error other = formed-where exact _ state.BeforeAttributeName c

  formed-closing : (errors : List Told) (tag : OpenTag) (self_closing : Bool) → AllFormed exact errors → FormedHere exact (closing_step errors tag self_closing)
  unfolding closing_step FormedHere
  formed-closing errors tag self_closing f =
      formed-append exact errors _ f (formed-append exact _ _ (formed-duplicate tag) (formed-end_tag (with_last_attribute tag) self_closing))

  formed-tag_name_end : (tag : OpenTag) → FormedHere exact (tag_name_end_step tag c)
  unfolding tag_name_end_step
  formed-tag_name_end tag =
      formed-if exact (is_white_space c) _ _ (here-nil _)
      (formed-if exact (c == solidus) _ _ (here-nil _) (formed-closing [] tag false (formed-nil exact)))

  formed-tag_name : (tag : OpenTag) → FormedHere exact (tag_name_step exact tag c)
  unfolding tag_name_step FormedHere
  formed-tag_name tag =
      formed-if exact (in_tag_name c) _ _ (formed-where exact _ state.TagName c)
      (formed-if exact (is_white_space c) _ _ (formed-nil exact)
      (formed-if exact (c == solidus) _ _ (formed-nil exact) (formed-closing [] tag false (formed-nil exact))))

  formed-part : (place : Place) (tag : OpenTag) → FormedHere exact (part_step exact place tag c)
  unfolding part_step FormedHere
  formed-part place tag =
      formed-if exact (c == greater_than) _ _ (formed-closing _ tag _ (formed-place place))
      (formed-if exact (is_white_space c) _ _ (formed-place place)
      (formed-if exact (c == solidus) _ _ (formed-place place)
      (formed-append exact _ _ (formed-place place) (formed-append exact _ _ (formed-first_error place) (formed-duplicate tag)))))

  formed-attribute_name : (tag : OpenTag) → FormedHere exact (attribute_name_step exact tag c)
  unfolding attribute_name_step FormedHere
  formed-attribute_name tag =
      formed-if exact (in_attribute_name c) _ _ (formed-where exact _ state.AttributeName c)
      (formed-if exact (is_white_space c) _ _ (formed-nil exact)
      (formed-if exact (c == solidus) _ _ (formed-nil exact)
      (formed-if exact (c == equals_sign) _ _ (formed-nil exact) (formed-closing [] tag false (formed-nil exact)))))

  formed-unquoted : (tag : OpenTag) → FormedHere exact (unquoted_step exact tag c)
  unfolding unquoted_step unquoted_error FormedHere
  formed-unquoted tag =
      formed-if exact (in_unquoted c) _ _ (formed-where exact _ (state.AttributeValue Unquoted) c)
      (formed-if exact (c == ampersand) _ _ (formed-nil exact)
      (formed-if exact (c == greater_than) _ _ (formed-closing [] tag false (formed-nil exact)) (formed-nil exact)))

  formed-quoted : (kind : AttrValueKind) (tag : OpenTag) → FormedHere exact (quoted_step exact kind tag c)
  unfolding quoted_step FormedHere
  formed-quoted kind tag =
      formed-if exact (in_quoted kind c) _ _ (formed-where exact _ (state.AttributeValue kind) c)
      (formed-if exact (c == ampersand) _ _ (formed-nil exact) (formed-nil exact))

  formed-tag : (place : Place) (tag : OpenTag) → FormedHere exact (tag_step exact place tag c)
  unfolding tag_step before_value_step after_attribute_name_step
  formed-tag InName tag = formed-tag_name tag
  formed-tag BeforeAttribute tag = formed-part BeforeAttribute tag
  formed-tag InAttributeName tag = formed-attribute_name tag
  formed-tag AfterAttributeName tag =
      formed-if exact (is_white_space c) _ _ (here-nil _)
      (formed-if exact (c == equals_sign) _ _ (here-nil _) (formed-part AfterAttributeName tag))
  formed-tag BeforeValue tag =
      formed-if exact (is_white_space c) _ _ (here-nil _)
      (formed-if exact (c == quotation_mark) _ _ (here-nil _)
      (formed-if exact (c == apostrophe) _ _ (here-nil _)
      (formed-if exact (c == greater_than) _ _ (formed-closing _ tag false (formed-error exact state.BeforeAttributeValue equals_sign)) (formed-unquoted tag))))
  formed-tag (InValue Unquoted) tag = formed-unquoted tag
  formed-tag (InValue SingleQuoted) tag = formed-quoted SingleQuoted tag
  formed-tag (InValue DoubleQuoted) tag = formed-quoted DoubleQuoted tag
  formed-tag AfterQuotedValue tag = formed-part AfterQuotedValue tag
  formed-tag AfterSolidus tag = formed-part AfterSolidus tag

  -- ---- text

  formed-data : (before : List Told) → AllFormed exact before → FormedHere exact (data_step exact before c)
  unfolding data_step FormedHere AllFormed
  formed-data before f =
      formed-if exact (c == less_than) _ _ f
      (formed-if exact (c == ampersand) _ _ f
      (formed-if exact (c == null) _ _ (formed-append exact before _ f (saw-form exact state.Data c, (tt, tt)))
      (formed-append exact before _ f (tt, tt))))

  list-if : (test : Bool) (p q : List Told) → AllFormed exact p → AllFormed exact q → AllFormed exact (if test then p else q)
  list-if true p q f g = f
  list-if false p q f g = g

  formed-plain_text : AllFormed exact (plain_text exact c)
  unfolding plain_text AllFormed
  formed-plain_text = list-if (c == null) _ _ (saw-form exact state.Plaintext c, (tt, tt)) (tt, tt)

  formed-raw_character : (raw : Raw) → AllFormed exact (raw_character exact raw c)
  unfolding raw_character AllFormed
  formed-raw_character raw = list-if (c == null) _ _ (saw-form exact (raw_state raw) c, (tt, tt)) (tt, tt)

  -- ---- raw text

  formed-less_than : (kind : RawKind) → AllFormed exact (told_at_less_than kind)
  formed-less_than raw_kind.Rcdata = formed-nil exact
  formed-less_than raw_kind.Rawtext = formed-nil exact
  formed-less_than raw_kind.ScriptData = formed-nil exact
  formed-less_than (raw_kind.ScriptDataEscaped escape_kind.Escaped) = formed-nil exact
  formed-less_than (raw_kind.ScriptDataEscaped escape_kind.DoubleEscaped) = formed-texts exact (less_than ∷ [])

  pub formed-told_after : (kind : RawKind) → AllFormed exact (told_after_less_than kind)
  formed-told_after raw_kind.Rcdata = formed-texts exact (less_than ∷ [])
  formed-told_after raw_kind.Rawtext = formed-texts exact (less_than ∷ [])
  formed-told_after raw_kind.ScriptData = formed-texts exact (less_than ∷ [])
  formed-told_after (raw_kind.ScriptDataEscaped escape_kind.Escaped) = formed-texts exact (less_than ∷ [])
  formed-told_after (raw_kind.ScriptDataEscaped escape_kind.DoubleEscaped) = formed-nil exact

  formed-raw_solidus : (kind : RawKind) (name : List ℕ) → FormedHere exact (raw_solidus_step kind name)
  unfolding raw_solidus_step FormedHere
  formed-raw_solidus raw_kind.Rcdata name = formed-nil exact
  formed-raw_solidus raw_kind.Rawtext name = formed-nil exact
  formed-raw_solidus raw_kind.ScriptData name = formed-nil exact
  formed-raw_solidus (raw_kind.ScriptDataEscaped escape_kind.Escaped) name = formed-nil exact
  formed-raw_solidus (raw_kind.ScriptDataEscaped escape_kind.DoubleEscaped) name = formed-texts exact (solidus ∷ [])

  formed-raw : (raw : Raw) (name : List ℕ) (before : List Told) → AllFormed exact before → FormedHere exact (raw_step exact raw name before c)
  unfolding raw_step FormedHere
  formed-raw raw name before f =
      formed-if exact (c == less_than) _ _ (formed-append exact before _ f (formed-less_than (kind_of raw)))
      (formed-if exact (is_rcdata raw && (c == ampersand)) _ _ f
      (formed-append exact before _ f (formed-raw_character raw)))

  formed-after_less_than : (kind : RawKind) (name : List ℕ) → FormedHere exact (raw_less_than_step exact kind name c)
  unfolding raw_less_than_step FormedHere
  formed-after_less_than kind name =
      formed-if exact (c == solidus) _ _ (formed-raw_solidus kind name)
      (formed-if exact (begins_mark kind c) _ _ (formed-texts exact (less_than ∷ c ∷ []))
      (formed-if exact (begins_switch kind c) _ _ (formed-texts exact (less_than ∷ c ∷ []))
      (formed-raw (raw_of kind) name _ (formed-told_after kind))))

  formed-raw_place : (place : RawPlace) (name : List ℕ) → FormedHere exact (raw_place_step exact place name c)
  unfolding raw_place_step end_name_step switch_step mark_step mark_and_dash_step FormedHere
  formed-raw_place (AfterLessThan kind) name = formed-after_less_than kind name
  formed-raw_place (InEndName kind letters) name =
      formed-if exact (is_letter c) _ _ (formed-nil exact)
      (formed-if exact (ends_raw_text name letters c) _ _ (formed-tag_name_end (with_name (begun EndTag) letters))
      (formed-raw (raw_of kind) name _ (formed-texts exact (less_than ∷ solidus ∷ letters))))
  formed-raw_place AfterMark name =
      formed-if exact (c == hyphen) _ _ (formed-texts exact (c ∷ [])) (formed-raw ScriptData name [] (formed-nil exact))
  formed-raw_place AfterMarkAndDash name =
      formed-if exact (c == hyphen) _ _ (formed-texts exact (c ∷ [])) (formed-raw ScriptData name [] (formed-nil exact))
  formed-raw_place (InSwitch kind letters) name =
      formed-if exact (is_letter c) _ _ (formed-texts exact (c ∷ []))
      (formed-if exact (ends_name c) _ _ (formed-texts exact (c ∷ []))
      (formed-raw (raw_of (raw_kind.ScriptDataEscaped kind)) name [] (formed-nil exact)))

  -- ---- comments, processing instructions and CDATA sections

  pub formed-bogus_comment : (before : List ℕ) (first : List Told) → AllFormed exact first → FormedHere exact (bogus_comment_step exact before first c)
  unfolding bogus_comment_step FormedHere AllFormed
  formed-bogus_comment before first f =
      formed-if exact (c == greater_than) _ _ (formed-append exact first _ f (tt, tt))
      (formed-append exact first _ f (formed-where exact _ state.BogusComment c))

  formed-comment : (before : List ℕ) → FormedHere exact (comment_step exact before c)
  unfolding comment_step comment_end_error comment_errors mark_error FormedHere AllFormed
  formed-comment before =
      formed-if exact ((c == greater_than) && ends_comment before) _ _
      (formed-append exact (comment_end_error exact before) (Comment (comment_content before) ∷ []) (formed-where exact _ (comment_state state.Comment before) greater_than) (tt, tt))
      (formed-append exact (mark_error exact before c) (null_error exact (comment_state state.Comment before) c)
      (formed-where exact _ state.CommentLessThanSignBangDashDash c) (formed-where exact _ (comment_state state.Comment before) c))

  formed-instruction : (before : List ℕ) → FormedHere exact (instruction_step exact before c)
  unfolding instruction_step FormedHere AllFormed
  formed-instruction before = formed-if exact (c == greater_than) _ _ (tt, tt) (formed-where exact _ state.ProcessingInstruction c)

  formed-cdata : (held : List ℕ) → FormedHere exact (cdata_step held c)
  unfolding cdata_step FormedHere AllFormed
  formed-cdata held =
      formed-if exact ((c == greater_than) && ends_cdata held) (Tells (told_at_end_of_cdata held) (Between Data)) _ (formed-texts exact (without_last 2 held))
      (formed-if exact (c == null) _ _ (formed-append exact (texts held) _ (formed-texts exact held) (tt, tt)) tt)

  -- ---- doctypes

  pub formed-skipped : (errors : List Told) (d : DoctypeOf) → AllFormed exact errors → FormedHere exact (skipped_step exact errors d c)
  unfolding skipped_step FormedHere AllFormed
  formed-skipped errors d f =
      formed-if exact (c == greater_than) _ _ (formed-append exact errors (Doctype d ∷ []) f (tt, tt))
      (formed-append exact errors _ f (formed-where exact _ state.BogusDoctype c))

  formed-wanted_name : (errors : List Told) (d : DoctypeOf) → AllFormed exact errors → FormedHere exact (wanted_name_step exact errors d c)
  unfolding wanted_name_step FormedHere AllFormed
  formed-wanted_name errors d f =
      formed-if exact (c == greater_than) _ _ (formed-append exact errors _ f (saw-form exact state.BeforeDoctypeName c, (tt, tt)))
      (formed-append exact errors _ f (formed-where exact _ state.BeforeDoctypeName c))

  formed-wanted_identifier : (is_direct : Bool) (named : State) (kind : DoctypeIdKind) (d : DoctypeOf)
      → FormedHere exact (wanted_identifier_step exact is_direct named kind d c)
  unfolding wanted_identifier_step FormedHere
  formed-wanted_identifier is_direct named kind d =
      formed-if exact (c == quotation_mark) _ _ (formed-where exact is_direct named c)
      (formed-if exact (c == apostrophe) _ _ (formed-where exact is_direct named c)
      (formed-skipped (error_in exact named c ∷ []) (with_quirks d) (formed-error exact named c)))

  formed-system_or_end : (is_direct : Bool) (named : State) (d : DoctypeOf) → FormedHere exact (system_or_end_step exact is_direct named d c)
  unfolding system_or_end_step FormedHere AllFormed
  formed-system_or_end is_direct named d =
      formed-if exact (c == greater_than) _ _ (tt, tt) (formed-wanted_identifier is_direct named System d)

  formed-after_identifier : (kind : DoctypeIdKind) (d : DoctypeOf) → FormedHere exact (after_identifier_step exact kind d c)
  unfolding after_identifier_step FormedHere AllFormed
  formed-after_identifier Public d =
      formed-if exact (is_white_space c) _ _ tt (formed-system_or_end true (state.AfterDoctypeIdentifier Public) d)
  formed-after_identifier System d =
      formed-if exact (is_white_space c) _ _ tt
      (formed-if exact (c == greater_than) _ _ (tt, tt) (formed-skipped _ d (formed-error exact (state.AfterDoctypeIdentifier System) c)))

  formed-space : (place : DoctypePlace) (d : DoctypeOf) (next : Here Open) → FormedHere exact next → FormedHere exact (space_step place d c next)
  unfolding space_step
  formed-space place d next f = formed-if exact (is_white_space c) (Tells [] (InDoctype place d)) next (here-nil _) f

  formed-doctype : (place : DoctypePlace) (d : DoctypeOf) → FormedHere exact (doctype_step exact place d c)
  unfolding doctype_step doctype_name_step keyword_or_end_step identifier_step FormedHere AllFormed
  formed-doctype AfterWord d = formed-space _ d _ (formed-wanted_name (word_error exact c) d (formed-where exact _ state.Doctype c))
  formed-doctype BeforeName d = formed-space _ d _ (formed-wanted_name [] d tt)
  formed-doctype InDoctypeName d =
      formed-if exact (in_doctype_name c) _ _ (formed-where exact _ state.DoctypeName c)
      (formed-if exact (c == greater_than) _ _ (tt, tt) tt)
  formed-doctype AfterName d =
      formed-space _ d _ (formed-if exact (c == greater_than) _ _ (tt, tt)
      (formed-if exact (begins_doctype_keyword (c ∷ [])) _ _ tt (formed-skipped _ _ (formed-error exact state.AfterDoctypeName c))))
  formed-doctype (AfterKeyword kind) d = formed-space _ d _ (formed-wanted_identifier true (state.AfterDoctypeKeyword kind) kind d)
  formed-doctype (BeforeIdentifier kind) d = formed-space _ d _ (formed-wanted_identifier false (state.BeforeDoctypeIdentifier kind) kind d)
  formed-doctype (InIdentifier quotes kind) d =
      formed-if exact (in_identifier quotes c) _ _ (formed-where exact _ (identifier_state quotes kind) c)
      (formed-if exact (c == greater_than) _ _ (saw-form exact (identifier_state quotes kind) c, (tt, tt)) tt)
  formed-doctype (AfterIdentifier kind) d = formed-after_identifier kind d
  formed-doctype BetweenIdentifiers d = formed-space _ d _ (formed-system_or_end false state.BetweenDoctypePublicAndSystemIdentifiers d)
  formed-doctype Skipped d = formed-skipped [] d tt

  -- ---- all that may be open

  pub formed-step_at : (opened : Open) → FormedHere exact (step_at exact opened c)
  unfolding step_at less_than_step solidus_step FormedHere AllFormed
  formed-step_at (Between Data) = formed-data [] tt
  formed-step_at (Between Plain) = formed-plain_text
  formed-step_at (Between Cdata) = formed-cdata []
  formed-step_at (Between (RawText raw name)) = formed-raw raw name [] tt
  formed-step_at LessThan =
      formed-if exact (is_letter c) _ _ (formed-tag_name (begun StartTag))
      (formed-if exact (c == solidus) _ _ tt
      (formed-if exact (c == exclamation_mark) _ _ tt
      (formed-if exact (c == question_mark) _ _ tt (formed-data _ (saw-form exact state.TagOpen c, (tt, tt))))))
  formed-step_at LessThanSolidus =
      formed-if exact (is_letter c) _ _ (formed-tag_name (begun EndTag))
      (formed-if exact (c == greater_than) _ _ (formed-error exact state.EndTagOpen c) (formed-bogus_comment [] _ (formed-error exact state.EndTagOpen c)))
  formed-step_at (InTag place tag) = formed-tag place tag
  formed-step_at (InRaw place name) = formed-raw_place place name
  formed-step_at (InDeclaration held) = tt
  formed-step_at (InComment before) = formed-comment before
  formed-step_at (InBogusComment before) = formed-bogus_comment before [] tt
  formed-step_at (InInstruction before) = formed-instruction before
  formed-step_at (InDoctype place d) = formed-doctype place d
  formed-step_at (InDoctypeKeyword held d) = tt
  formed-step_at (InCdata held) = formed-cdata held
  formed-step_at (InReference stand held) = tt
