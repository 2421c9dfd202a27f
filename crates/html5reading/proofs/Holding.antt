-- After a character that is read nothing is held but that character: what begins to be held begins empty, or with the first
-- character of a keyword of a doctype.
use Rattle.std.proofs.lemmas.Bool.{false≢true}
use Rattle.std.proofs.Common.{◌≡◌, sym, ℕ, ◌≤◌, Bool, true, false, List, [], ◌∷◌, arith}
use Rattle.std.specs.Prelude.{◌&&◌, ◌==◌, if◌then◌else◌}
use Rattle.html5ever_interface.specs.Token.{Told, DoctypeOf}
use Rattle.html5ever_interface.specs.declared.states.AttrValueKind.{AttrValueKind}
use Rattle.html5ever_interface.specs.declared.states.AttrValueKind.TheVariants.{Unquoted, SingleQuoted, DoubleQuoted}
use Rattle.html5ever_interface.specs.declared.states.DoctypeIdKind.{DoctypeIdKind}
use Rattle.html5ever_interface.specs.declared.states.DoctypeIdKind.TheVariants.{Public, System}
use Rattle.html5ever_interface.specs.declared.states.RawKind.{RawKind}
use Rattle.html5ever_interface.specs.declared.states.RawKind.TheVariants as raw_kind
use Rattle.html5ever_interface.specs.declared.states.ScriptEscapeKind.TheVariants as escape_kind
use Rattle.html5ever_interface.specs.declared.states.State.{State}
use Rattle.html5ever_interface.specs.declared.states.State.TheVariants as state
use Rattle.html5reading.specs.Cdata.{ends_cdata}
use Rattle.html5reading.specs.Characters.{null, exclamation_mark, quotation_mark, ampersand, apostrophe, hyphen, solidus, less_than, equals_sign, greater_than, question_mark, is_letter, is_white_space}
use Rattle.html5reading.specs.Comment.{ends_comment}
use Rattle.html5reading.specs.Doctype.{in_identifier, begins_doctype_keyword, in_doctype_name}
use Rattle.html5reading.specs.RawText.{ends_name, is_rcdata, ends_raw_text, begins_mark, begins_switch}
use Rattle.html5reading.specs.Reading.{Here}
use Rattle.html5reading.specs.Reading.Here.{Tells, TellsTag}
use Rattle.html5reading.specs.Start.{Raw, OpenTag, Place, RawPlace, DoctypePlace, Open, held_len, is_undecided_open}
use Rattle.html5reading.specs.Start.Mode.{Data, Plain, RawText, Cdata}
use Rattle.html5reading.specs.Start.DoctypePlace.{AfterWord, BeforeName, InDoctypeName, AfterName, AfterKeyword, BeforeIdentifier, InIdentifier, AfterIdentifier, BetweenIdentifiers, Skipped}
use Rattle.html5reading.specs.Start.Open.{Between, LessThan, LessThanSolidus, InTag, InRaw, InDeclaration, InComment, InBogusComment, InInstruction, InDoctype, InDoctypeKeyword, InReference, InCdata}
use Rattle.html5reading.specs.Start.Place.{InName, BeforeAttribute, InAttributeName, AfterAttributeName, BeforeValue, InValue, AfterQuotedValue, AfterSolidus}
use Rattle.html5reading.specs.Start.RawPlace.{AfterLessThan, InEndName, AfterMark, AfterMarkAndDash, InSwitch}
use Rattle.html5reading.specs.Tag.{in_quoted, in_unquoted, in_attribute_name, in_tag_name}
use Rattle.html5reading.specs.Machine.{closing_step, tag_name_step, part_step, attribute_name_step, after_attribute_name_step, quoted_step, unquoted_step, before_value_step, tag_step, data_step, less_than_step, solidus_step, bogus_comment_step, comment_step, instruction_step, skipped_step, wanted_name_step, doctype_name_step, keyword_or_end_step, wanted_identifier_step, system_or_end_step, identifier_step, after_identifier_step, space_step, doctype_step, raw_step, tag_name_end_step, end_name_step, switch_step, mark_step, mark_and_dash_step, raw_solidus_step, raw_less_than_step, raw_place_step, step_at, cdata_step}

abbrev pub HoldsAtMostOne : Here Open → Type 0
HoldsAtMostOne (Tells told later) = held_len later ≤ 1
HoldsAtMostOne (TellsTag told tag) = Unit {0}

none : 0 ≤ 1
none = omega arith

one : 1 ≤ 1
one = omega arith

holds-if : (test : Bool) (p q : Here Open) → HoldsAtMostOne p → HoldsAtMostOne q → HoldsAtMostOne (if test then p else q)
holds-if true p q f g = f
holds-if false p q f g = g

module _ (exact : Bool) (c : ℕ) where
  holds-closing : (errors : List Told) (tag : OpenTag) (self_closing : Bool) → HoldsAtMostOne (closing_step errors tag self_closing)
  unfolding closing_step
  holds-closing errors tag self_closing = tt

  holds-tag_name : (tag : OpenTag) → HoldsAtMostOne (tag_name_step exact tag c)
  unfolding tag_name_step
  holds-tag_name tag = holds-if (in_tag_name c) _ _ none (holds-if (is_white_space c) _ _ none (holds-if (c == solidus) _ _ none (holds-closing [] tag false)))

  holds-part : (place : Place) (tag : OpenTag) → HoldsAtMostOne (part_step exact place tag c)
  unfolding part_step
  holds-part place tag = holds-if (c == greater_than) _ _ (holds-closing _ tag _) (holds-if (is_white_space c) _ _ none (holds-if (c == solidus) _ _ none none))

  holds-attribute_name : (tag : OpenTag) → HoldsAtMostOne (attribute_name_step exact tag c)
  unfolding attribute_name_step
  holds-attribute_name tag =
      holds-if (in_attribute_name c) _ _ none (holds-if (is_white_space c) _ _ none (holds-if (c == solidus) _ _ none (holds-if (c == equals_sign) _ _ none (holds-closing [] tag false))))

  holds-unquoted : (tag : OpenTag) → HoldsAtMostOne (unquoted_step exact tag c)
  unfolding unquoted_step
  holds-unquoted tag = holds-if (in_unquoted c) _ _ none (holds-if (c == ampersand) _ _ none (holds-if (c == greater_than) _ _ (holds-closing [] tag false) none))

  holds-quoted : (kind : AttrValueKind) (tag : OpenTag) → HoldsAtMostOne (quoted_step exact kind tag c)
  unfolding quoted_step
  holds-quoted kind tag = holds-if (in_quoted kind c) _ _ none (holds-if (c == ampersand) _ _ none none)

  holds-data : (before : List Told) → HoldsAtMostOne (data_step exact before c)
  unfolding data_step
  holds-data before = holds-if (c == less_than) _ _ none (holds-if (c == ampersand) _ _ none (holds-if (c == null) _ _ none none))

  -- a step in a tag leaves at most one character held
  holds-tag : (place : Place) (tag : OpenTag) → HoldsAtMostOne (tag_step exact place tag c)
  unfolding tag_step before_value_step after_attribute_name_step
  holds-tag InName tag = holds-tag_name tag
  holds-tag BeforeAttribute tag = holds-part BeforeAttribute tag
  holds-tag InAttributeName tag = holds-attribute_name tag
  holds-tag AfterAttributeName tag = holds-if (is_white_space c) _ _ none (holds-if (c == equals_sign) _ _ none (holds-part AfterAttributeName tag))
  holds-tag BeforeValue tag =
      holds-if (is_white_space c) _ _ none (holds-if (c == quotation_mark) _ _ none (holds-if (c == apostrophe) _ _ none
      (holds-if (c == greater_than) _ _ (holds-closing _ tag false) (holds-unquoted tag))))
  holds-tag (InValue Unquoted) tag = holds-unquoted tag
  holds-tag (InValue SingleQuoted) tag = holds-quoted SingleQuoted tag
  holds-tag (InValue DoubleQuoted) tag = holds-quoted DoubleQuoted tag
  holds-tag AfterQuotedValue tag = holds-part AfterQuotedValue tag
  holds-tag AfterSolidus tag = holds-part AfterSolidus tag

  holds-raw : (raw : Raw) (name : List ℕ) (before : List Told) → HoldsAtMostOne (raw_step exact raw name before c)
  unfolding raw_step
  holds-raw raw name before = holds-if (c == less_than) _ _ none (holds-if (is_rcdata raw && (c == ampersand)) _ _ none none)

  holds-bogus_comment : (before : List ℕ) (first : List Told) → HoldsAtMostOne (bogus_comment_step exact before first c)
  unfolding bogus_comment_step
  holds-bogus_comment before first = holds-if (c == greater_than) _ _ none none

  holds-cdata : (held : List ℕ) → HoldsAtMostOne (cdata_step held c)
  unfolding cdata_step
  holds-cdata held = holds-if ((c == greater_than) && ends_cdata held) _ _ none (holds-if (c == null) _ _ none none)

  holds-raw_solidus : (kind : RawKind) (name : List ℕ) → HoldsAtMostOne (raw_solidus_step kind name)
  unfolding raw_solidus_step
  holds-raw_solidus raw_kind.Rcdata name = none
  holds-raw_solidus raw_kind.Rawtext name = none
  holds-raw_solidus raw_kind.ScriptData name = none
  holds-raw_solidus (raw_kind.ScriptDataEscaped escape_kind.Escaped) name = none
  holds-raw_solidus (raw_kind.ScriptDataEscaped escape_kind.DoubleEscaped) name = none

  holds-tag_name_end : (tag : OpenTag) → HoldsAtMostOne (tag_name_end_step tag c)
  unfolding tag_name_end_step
  holds-tag_name_end tag = holds-if (is_white_space c) _ _ none (holds-if (c == solidus) _ _ none (holds-closing [] tag false))

  holds-raw_place : (place : RawPlace) (name : List ℕ) → HoldsAtMostOne (raw_place_step exact place name c)
  unfolding raw_place_step raw_less_than_step end_name_step switch_step mark_step mark_and_dash_step
  holds-raw_place (AfterLessThan kind) name =
      holds-if (c == solidus) _ _ (holds-raw_solidus kind name) (holds-if (begins_mark kind c) _ _ none (holds-if (begins_switch kind c) _ _ none (holds-raw _ name _)))
  holds-raw_place (InEndName kind letters) name =
      holds-if (is_letter c) _ _ none (holds-if (ends_raw_text name letters c) _ _ (holds-tag_name_end _) (holds-raw _ name _))
  holds-raw_place AfterMark name = holds-if (c == hyphen) _ _ none (holds-raw _ name [])
  holds-raw_place AfterMarkAndDash name = holds-if (c == hyphen) _ _ none (holds-raw _ name [])
  holds-raw_place (InSwitch kind letters) name = holds-if (is_letter c) _ _ none (holds-if (ends_name c) _ _ none (holds-raw _ name []))

  holds-skipped : (errors : List Told) (d : DoctypeOf) → HoldsAtMostOne (skipped_step exact errors d c)
  unfolding skipped_step
  holds-skipped errors d = holds-if (c == greater_than) _ _ none none

  holds-wanted_name : (errors : List Told) (d : DoctypeOf) → HoldsAtMostOne (wanted_name_step exact errors d c)
  unfolding wanted_name_step
  holds-wanted_name errors d = holds-if (c == greater_than) _ _ none none

  holds-wanted_identifier : (is_direct : Bool) (named : State) (kind : DoctypeIdKind) (d : DoctypeOf) → HoldsAtMostOne (wanted_identifier_step exact is_direct named kind d c)
  unfolding wanted_identifier_step
  holds-wanted_identifier is_direct named kind d = holds-if (c == quotation_mark) _ _ none (holds-if (c == apostrophe) _ _ none (holds-skipped _ _))

  holds-system_or_end : (is_direct : Bool) (named : State) (d : DoctypeOf) → HoldsAtMostOne (system_or_end_step exact is_direct named d c)
  unfolding system_or_end_step
  holds-system_or_end is_direct named d = holds-if (c == greater_than) _ _ none (holds-wanted_identifier is_direct named System d)

  holds-after_identifier : (kind : DoctypeIdKind) (d : DoctypeOf) → HoldsAtMostOne (after_identifier_step exact kind d c)
  unfolding after_identifier_step
  holds-after_identifier Public d = holds-if (is_white_space c) _ _ none (holds-system_or_end true (state.AfterDoctypeIdentifier Public) d)
  holds-after_identifier System d = holds-if (is_white_space c) _ _ none (holds-if (c == greater_than) _ _ none (holds-skipped _ d))

  holds-space : (place : DoctypePlace) (d : DoctypeOf) (next : Here Open) → HoldsAtMostOne next → HoldsAtMostOne (space_step place d c next)
  unfolding space_step
  holds-space place d next f = holds-if (is_white_space c) (Tells [] (InDoctype place d)) next none f

  -- a step in a doctype leaves at most one character held
  holds-doctype : (place : DoctypePlace) (d : DoctypeOf) → HoldsAtMostOne (doctype_step exact place d c)
  unfolding doctype_step doctype_name_step keyword_or_end_step identifier_step
  holds-doctype AfterWord d = holds-space _ d _ (holds-wanted_name _ d)
  holds-doctype BeforeName d = holds-space _ d _ (holds-wanted_name [] d)
  holds-doctype InDoctypeName d = holds-if (in_doctype_name c) _ _ none (holds-if (c == greater_than) _ _ none none)
  holds-doctype AfterName d =
      holds-space _ d _ (holds-if (c == greater_than) _ _ none (holds-if (begins_doctype_keyword (c ∷ [])) _ _ one (holds-skipped _ _)))
  holds-doctype (AfterKeyword kind) d = holds-space _ d _ (holds-wanted_identifier true (state.AfterDoctypeKeyword kind) kind d)
  holds-doctype (BeforeIdentifier kind) d = holds-space _ d _ (holds-wanted_identifier false (state.BeforeDoctypeIdentifier kind) kind d)
  holds-doctype (InIdentifier quotes kind) d = holds-if (in_identifier quotes c) _ _ none (holds-if (c == greater_than) _ _ none none)
  holds-doctype (AfterIdentifier kind) d = holds-after_identifier kind d
  holds-doctype BetweenIdentifiers d = holds-space _ d _ (holds-system_or_end false state.BetweenDoctypePublicAndSystemIdentifiers d)
  holds-doctype Skipped d = holds-skipped [] d

  -- when nothing is undecided a character holds itself at most. So a feed takes at most two characters for one.
  pub holds_at_most_one : (opened : Open) → is_undecided_open opened ≡ false → HoldsAtMostOne (step_at exact opened c)
  unfolding step_at less_than_step solidus_step comment_step instruction_step
  holds_at_most_one (Between Data) decided = holds-data []
  holds_at_most_one (Between Plain) decided = none
  holds_at_most_one (Between Cdata) decided = holds-cdata []
  holds_at_most_one (Between (RawText raw name)) decided = holds-raw raw name []
  holds_at_most_one LessThan decided =
      holds-if (is_letter c) _ _ (holds-tag_name _) (holds-if (c == solidus) _ _ none
      (holds-if (c == exclamation_mark) _ _ none (holds-if (c == question_mark) _ _ none (holds-data _))))
  holds_at_most_one LessThanSolidus decided =
      holds-if (is_letter c) _ _ (holds-tag_name _) (holds-if (c == greater_than) _ _ none (holds-bogus_comment [] _))
  holds_at_most_one (InTag place tag) decided = holds-tag place tag
  holds_at_most_one (InRaw place name) decided = holds-raw_place place name
  holds_at_most_one (InDeclaration held) decided = absurd (false≢true (sym decided))
  holds_at_most_one (InComment before) decided = holds-if ((c == greater_than) && ends_comment before) _ _ none none
  holds_at_most_one (InBogusComment before) decided = holds-bogus_comment before []
  holds_at_most_one (InInstruction before) decided = holds-if (c == greater_than) _ _ none none
  holds_at_most_one (InDoctype place d) decided = holds-doctype place d
  holds_at_most_one (InDoctypeKeyword held d) decided = absurd (false≢true (sym decided))
  holds_at_most_one (InCdata held) decided = holds-cdata held
  holds_at_most_one (InReference stand held) decided = absurd (false≢true (sym decided))
