-- Each character tells lawful tokens if the open item is fit for them, and leaves one that is.
use Rattle.std.proofs.Common.{◌≡◌, ℕ, Bool, true, false, List, [], ◌∷◌, ◌++◌, refl, zero, suc, take, not, arith}
use Rattle.std.specs.Prelude.{◌&&◌, ◌==◌, encode_utf8, length, if◌then◌else◌}
use Rattle.std.specs.List.{list_all}
use Rattle.std.specs.Bool.{nat_eq}
use Rattle.std.proofs.lemmas.Bool.{and_parts, false≢true}
use Rattle.std.proofs.lemmas.Bool.Decides.{nat_tests}
use Rattle.html5ever_interface.specs.Token.{Told, DoctypeOf}
use Rattle.html5ever_interface.specs.Token.Told.{Text, Comment, Doctype, Error}
use Rattle.html5ever_interface.specs.declared.states.State.{State}
use Rattle.html5ever_interface.specs.declared.states.State.TheVariants as state
use Rattle.html5ever_interface.specs.declared.states.DoctypeIdKind.{DoctypeIdKind}
use Rattle.html5ever_interface.specs.declared.states.DoctypeIdKind.TheVariants.{Public, System}
use Rattle.html5ever_interface.specs.declared.states.RawKind.{RawKind}
use Rattle.html5ever_interface.specs.declared.states.RawKind.TheVariants as raw_kind
use Rattle.html5ever_interface.specs.declared.states.ScriptEscapeKind.TheVariants as escape_kind
use Rattle.html5ever_interface.specs.declared.states.AttrValueKind.{AttrValueKind}
use Rattle.html5ever_interface.specs.declared.states.AttrValueKind.TheVariants.{Unquoted, SingleQuoted, DoubleQuoted}
use Rattle.html5ever_interface.specs.declared.interface.token.TagKind.{TagKind}
use Rattle.html5ever_interface.specs.declared.interface.token.TagKind.TheVariants.{StartTag, EndTag}
use Rattle.html5reading.specs.Cdata.{ends_cdata, told_at_end_of_cdata}
use Rattle.html5reading.specs.Characters.{null, replacement_character, exclamation_mark, quotation_mark, ampersand, apostrophe, hyphen, solidus, less_than, equals_sign, greater_than, question_mark, is_letter, is_white_space, is_bad_character}
use Rattle.html5reading.specs.ErrorText.{error_in, bad_character_error}
use Rattle.html5reading.specs.Reading.{Here}
use Rattle.html5reading.specs.Start.Stand.{InText, InAttribute}
use Rattle.html5reading.specs.Reading.Here.{Tells, TellsTag}
use Rattle.html5reading.specs.Start.{Raw, OpenTag, Place, RawPlace, DoctypePlace, Stand, Open, raw_of, begun}
use Rattle.html5reading.specs.Start.Raw.{ScriptData}
use Rattle.html5reading.specs.Start.Mode.{Data, Plain, RawText, Cdata}
use Rattle.html5reading.specs.Start.RawPlace.{AfterLessThan, InEndName, AfterMark, AfterMarkAndDash, InSwitch}
use Rattle.html5reading.specs.Start.Place.{InName, BeforeAttribute, InAttributeName, AfterAttributeName, BeforeValue, InValue, AfterQuotedValue, AfterSolidus}
use Rattle.html5reading.specs.Start.DoctypePlace.{AfterWord, BeforeName, InDoctypeName, AfterName, AfterKeyword, BeforeIdentifier, InIdentifier, AfterIdentifier, BetweenIdentifiers, Skipped}
use Rattle.html5reading.specs.Start.Open.{Between, LessThan, LessThanSolidus, InTag, InRaw, InDeclaration, InComment, InBogusComment, InInstruction, InDoctype, InDoctypeKeyword, InReference, InCdata}
use Rattle.html5reading.specs.Tag.{null_error, duplicate_error, end_tag_errors, with_last_attribute, in_quoted, in_unquoted, unquoted_error, in_attribute_name, place_error, first_error, in_tag_name, with_name}
use Rattle.html5reading.specs.Comment.{comment_state, ends_comment, comment_content, comment_end_error, comment_errors, mark_error, without_last}
use Rattle.html5reading.specs.Doctype.{with_quirks, in_identifier, begins_doctype_keyword, in_doctype_name, word_error}
use Rattle.html5reading.specs.RawText.{ends_name, raw_state, kind_of, is_rcdata, raw_character, ends_raw_text, told_at_less_than, told_after_less_than, begins_mark, begins_switch, texts}
use Rattle.html5reading.specs.Text.{plain_text}
use Rattle.html5reading.specs.Lawful.{has_no_null, IsLawfulTag, IsLawfulDoctype}
use Rattle.html5reading.specs.Machine.{closing_step, tag_name_step, part_step, attribute_name_step, after_attribute_name_step, quoted_step, unquoted_step, before_value_step, tag_step, data_step, less_than_step, solidus_step, bogus_comment_step, comment_step, instruction_step, skipped_step, wanted_name_step, doctype_name_step, keyword_or_end_step, wanted_identifier_step, system_or_end_step, identifier_step, after_identifier_step, space_step, doctype_step, raw_step, tag_name_end_step, end_name_step, switch_step, mark_step, mark_and_dash_step, raw_solidus_step, raw_less_than_step, raw_place_step, step_at, cdata_step}
use Rattle.html5reading.proofs.Letters.{letter-in_tag_name, letter-no_null}
use Rattle.html5reading.proofs.LawfulBytes.{no_null-append, no_null-encode, letters-no_null, all-append}
use Rattle.html5reading.proofs.LawfulReferences.{AllLawful, lawful-append, lawful-where, lawful-texts, no_null-parts, no_null-cons, no_null-nil}
use Rattle.html5reading.proofs.LawfulTags.{IsFitTag, fit-name, fit-begun, fit-value, fit-last_name, fit-last_attribute, lawful-told, lawful-quirks, lawful-name, lawful-first, lawful-begun_identifier, lawful-identifier}

-- a value in which a reference stands
abbrev pub IsFitStand : Stand → Type 0
IsFitStand (InText mode) = Unit {0}
IsFitStand (InAttribute kind tag) = IsFitTag tag

-- the open item is fit for what will be sent of it
unfoldable pub IsFit : Open → Type 0
IsFit (InTag place tag) = IsFitTag tag
IsFit (InRaw (InEndName kind letters) name) = list_all is_letter letters ≡ true
IsFit (InDoctype place d) = IsLawfulDoctype d
IsFit (InDoctypeKeyword held d) = IsLawfulDoctype d
IsFit (InCdata held) = has_no_null held ≡ true
IsFit (InReference stand held) = IsFitStand stand × (has_no_null held ≡ true)
IsFit other = Unit {0}

unfoldable pub LawfulHere : Here Open → Type 0
LawfulHere (Tells told later) = AllLawful told × IsFit later
LawfulHere (TellsTag told tag) = AllLawful told × IsLawfulTag tag

lawful-if : (test : Bool) (p q : Here Open) → (test ≡ true → LawfulHere p) → (test ≡ false → LawfulHere q) → LawfulHere (if test then p else q)
lawful-if true p q f g = f refl
lawful-if false p q f g = g refl

pub lawful-bad : (exact : Bool) (c : ℕ) → AllLawful (bad_character_error exact c)
lawful-bad exact c = lawful-where (exact && is_bad_character c) _ tt

lawful-duplicate : (tag : OpenTag) → AllLawful (duplicate_error tag)
unfolding duplicate_error
lawful-duplicate tag = lawful-where _ _ tt

lawful-end_tag : (tag : OpenTag) (self_closing : Bool) → AllLawful (end_tag_errors tag self_closing)
unfolding end_tag_errors
lawful-end_tag tag self_closing = lawful-append _ _ (lawful-where _ _ tt) (lawful-where _ _ tt)

pub lawful-nil : AllLawful []
unfolding AllLawful
lawful-nil = tt

lawful-error : (message : List ℕ) → AllLawful (Error message ∷ [])
unfolding AllLawful
lawful-error message = (tt, tt)

lawful-doctype_told : (d : DoctypeOf) → IsLawfulDoctype d → AllLawful (Doctype d ∷ [])
unfolding AllLawful
lawful-doctype_told d h = (h, tt)

lawful-sign : AllLawful (texts (less_than ∷ []))
lawful-sign = lawful-texts (less_than ∷ []) (no_null-cons less_than [] refl no_null-nil)

pub lawful-told_after : (kind : RawKind) → AllLawful (told_after_less_than kind)
lawful-told_after raw_kind.Rcdata = lawful-sign
lawful-told_after raw_kind.Rawtext = lawful-sign
lawful-told_after raw_kind.ScriptData = lawful-sign
lawful-told_after (raw_kind.ScriptDataEscaped escape_kind.Escaped) = lawful-sign
lawful-told_after (raw_kind.ScriptDataEscaped escape_kind.DoubleEscaped) = lawful-nil

lawful-raw_solidus : (kind : RawKind) (name : List ℕ) → LawfulHere (raw_solidus_step kind name)
unfolding raw_solidus_step LawfulHere IsFit
lawful-raw_solidus raw_kind.Rcdata name = (lawful-nil, refl)
lawful-raw_solidus raw_kind.Rawtext name = (lawful-nil, refl)
lawful-raw_solidus raw_kind.ScriptData name = (lawful-nil, refl)
lawful-raw_solidus (raw_kind.ScriptDataEscaped escape_kind.Escaped) name = (lawful-nil, refl)
lawful-raw_solidus (raw_kind.ScriptDataEscaped escape_kind.DoubleEscaped) name = (lawful-texts (solidus ∷ []) (no_null-cons solidus [] refl no_null-nil), tt)

pub lawful-letters : (letters : List ℕ) → list_all is_letter letters ≡ true → AllLawful (texts (less_than ∷ solidus ∷ letters))
lawful-letters letters all =
    lawful-texts (less_than ∷ solidus ∷ letters)
    (no_null-cons less_than (solidus ∷ letters) refl (no_null-cons solidus letters refl (letters-no_null letters all)))

module _ (exact : Bool) (c : ℕ) where
  lawful-place : (place : Place) → AllLawful (place_error exact place c)
  unfolding place_error
  lawful-place InName = lawful-nil
  lawful-place BeforeAttribute = lawful-nil
  lawful-place InAttributeName = lawful-nil
  lawful-place AfterAttributeName = lawful-nil
  lawful-place BeforeValue = lawful-nil
  lawful-place (InValue kind) = lawful-nil
  lawful-place AfterQuotedValue = lawful-where _ _ tt
  lawful-place AfterSolidus = lawful-where _ _ tt

  lawful-first_error : (place : Place) → AllLawful (first_error exact place c)
  unfolding first_error
  lawful-first_error AfterAttributeName = lawful-where _ _ tt
  lawful-first_error other = lawful-where _ _ tt

  lawful-closing : (errors : List Told) (tag : OpenTag) (self_closing : Bool) → IsFitTag tag → AllLawful errors → LawfulHere (closing_step errors tag self_closing)
  unfolding closing_step LawfulHere
  lawful-closing errors tag self_closing fit f = (
    lawful-append errors _ f (lawful-append _ _ (lawful-duplicate tag) (lawful-end_tag (with_last_attribute tag) self_closing)),
    lawful-told (with_last_attribute tag) self_closing (fit-last_attribute tag fit),
  )

  -- after a tag's name
  lawful-tag_name_end : (tag : OpenTag) → IsFitTag tag → LawfulHere (tag_name_end_step tag c)
  unfolding tag_name_end_step LawfulHere IsFit
  lawful-tag_name_end tag fit =
      lawful-if (is_white_space c) _ _ (λ e. (lawful-nil, fit))
      (λ e. lawful-if (c == solidus) _ _ (λ f. (lawful-nil, fit)) (λ f. lawful-closing [] tag false fit lawful-nil))

  lawful-tag_name : (tag : OpenTag) → IsFitTag tag → LawfulHere (tag_name_step exact tag c)
  unfolding tag_name_step LawfulHere IsFit
  lawful-tag_name tag fit =
      lawful-if (in_tag_name c) _ _ (λ e. (lawful-where _ _ tt, fit-name tag (c ∷ []) fit))
      (λ e. lawful-if (is_white_space c) _ _ (λ f. (lawful-nil, fit))
      (λ f. lawful-if (c == solidus) _ _ (λ g. (lawful-nil, fit)) (λ g. lawful-closing [] tag false fit lawful-nil)))

  -- a letter begins a tag
  lawful-tag_begun : (kind : TagKind) → is_letter c ≡ true → LawfulHere (tag_name_step exact (begun kind) c)
  unfolding tag_name_step LawfulHere IsFit
  lawful-tag_begun kind letter =
      rw (letter-in_tag_name c letter) (lawful-where _ _ tt, fit-begun kind c [] letter)

  lawful-part : (place : Place) (tag : OpenTag) → IsFitTag tag → LawfulHere (part_step exact place tag c)
  unfolding part_step LawfulHere IsFit
  lawful-part place tag fit =
      lawful-if (c == greater_than) _ _ (λ e. lawful-closing _ tag _ fit (lawful-place place))
      (λ e. lawful-if (is_white_space c) _ _ (λ f. (lawful-place place, fit))
      (λ f. lawful-if (c == solidus) _ _ (λ g. (lawful-place place, fit))
      (λ g. (
        lawful-append _ _ (lawful-place place) (lawful-append _ _ (lawful-first_error place) (lawful-duplicate tag)),
        fit-last_name (with_last_attribute tag) (c ∷ []) (fit-last_attribute tag fit),
      ))))

  lawful-attribute_name : (tag : OpenTag) → IsFitTag tag → LawfulHere (attribute_name_step exact tag c)
  unfolding attribute_name_step LawfulHere IsFit
  lawful-attribute_name tag fit =
      lawful-if (in_attribute_name c) _ _ (λ e. (lawful-where _ _ tt, fit-last_name tag (c ∷ []) fit))
      (λ e. lawful-if (is_white_space c) _ _ (λ f. (lawful-nil, fit))
      (λ f. lawful-if (c == solidus) _ _ (λ g. (lawful-nil, fit))
      (λ g. lawful-if (c == equals_sign) _ _ (λ h. (lawful-nil, fit)) (λ h. lawful-closing [] tag false fit lawful-nil))))

  lawful-unquoted : (tag : OpenTag) → IsFitTag tag → LawfulHere (unquoted_step exact tag c)
  unfolding unquoted_step unquoted_error LawfulHere IsFit
  lawful-unquoted tag fit =
      lawful-if (in_unquoted c) _ _ (λ e. (lawful-where _ _ tt, fit-value tag (c ∷ []) fit))
      (λ e. lawful-if (c == ampersand) _ _ (λ f. (lawful-nil, (fit, no_null-nil)))
      (λ f. lawful-if (c == greater_than) _ _ (λ g. lawful-closing [] tag false fit lawful-nil) (λ g. (lawful-nil, fit))))

  lawful-quoted : (kind : AttrValueKind) (tag : OpenTag) → IsFitTag tag → LawfulHere (quoted_step exact kind tag c)
  unfolding quoted_step LawfulHere IsFit
  lawful-quoted kind tag fit =
      lawful-if (in_quoted kind c) _ _ (λ e. (lawful-where _ _ tt, fit-value tag (c ∷ []) fit))
      (λ e. lawful-if (c == ampersand) _ _ (λ f. (lawful-nil, (fit, no_null-nil))) (λ f. (lawful-nil, fit)))

  -- a step in a tag that is fit keeps it fit, or tells it
  lawful-tag : (place : Place) (tag : OpenTag) → IsFitTag tag → LawfulHere (tag_step exact place tag c)
  unfolding tag_step before_value_step after_attribute_name_step LawfulHere IsFit
  lawful-tag InName tag fit = lawful-tag_name tag fit
  lawful-tag BeforeAttribute tag fit = lawful-part BeforeAttribute tag fit
  lawful-tag InAttributeName tag fit = lawful-attribute_name tag fit
  lawful-tag AfterAttributeName tag fit =
      lawful-if (is_white_space c) _ _ (λ e. (lawful-nil, fit))
      (λ e. lawful-if (c == equals_sign) _ _ (λ f. (lawful-nil, fit)) (λ f. lawful-part AfterAttributeName tag fit))
  lawful-tag BeforeValue tag fit =
      lawful-if (is_white_space c) _ _ (λ e. (lawful-nil, fit))
      (λ e. lawful-if (c == quotation_mark) _ _ (λ f. (lawful-nil, fit))
      (λ f. lawful-if (c == apostrophe) _ _ (λ g. (lawful-nil, fit))
      (λ g. lawful-if (c == greater_than) _ _ (λ h. lawful-closing _ tag false fit (lawful-error _)) (λ h. lawful-unquoted tag fit))))
  lawful-tag (InValue Unquoted) tag fit = lawful-unquoted tag fit
  lawful-tag (InValue SingleQuoted) tag fit = lawful-quoted SingleQuoted tag fit
  lawful-tag (InValue DoubleQuoted) tag fit = lawful-quoted DoubleQuoted tag fit
  lawful-tag AfterQuotedValue tag fit = lawful-part AfterQuotedValue tag fit
  lawful-tag AfterSolidus tag fit = lawful-part AfterSolidus tag fit

  -- ---- text

  lawful-data : (before : List Told) → AllLawful before → LawfulHere (data_step exact before c)
  unfolding data_step LawfulHere IsFit AllLawful
  lawful-data before f =
      lawful-if (c == less_than) _ _ (λ e. (f, tt))
      (λ e. lawful-if (c == ampersand) _ _ (λ g. (f, (tt, no_null-nil)))
      (λ g. lawful-if (c == null) _ _ (λ h. (lawful-append before _ f (tt, (tt, tt)), tt))
      (λ h. (lawful-append before _ f (no_null-encode c h, tt), tt))))

  lawful-replacement : (message : List ℕ) → AllLawful (Error message ∷ Text (encode_utf8 replacement_character) ∷ [])
  unfolding AllLawful
  lawful-replacement message = (tt, (no_null-encode replacement_character refl, tt))

  lawful-character : (c == null) ≡ false → AllLawful (Text (encode_utf8 c) ∷ [])
  unfolding AllLawful
  lawful-character h = (no_null-encode c h, tt)

  lawful-plain_text : AllLawful (plain_text exact c)
  unfolding plain_text
  lawful-plain_text = elim (c == null) as (λ b. (c == null) ≡ b → AllLawful (if b then error_in exact state.Plaintext c ∷ Text (encode_utf8 replacement_character) ∷ [] else Text (encode_utf8 c) ∷ [])) [
    | true ↦ λ e. lawful-replacement _
    | false ↦ λ e. lawful-character e
  ] refl

  lawful-raw_character : (raw : Raw) → AllLawful (raw_character exact raw c)
  unfolding raw_character
  lawful-raw_character raw = elim (c == null) as (λ b. (c == null) ≡ b → AllLawful (if b then error_in exact (raw_state raw) c ∷ Text (encode_utf8 replacement_character) ∷ [] else Text (encode_utf8 c) ∷ [])) [
    | true ↦ λ e. lawful-replacement _
    | false ↦ λ e. lawful-character e
  ] refl

  -- ---- raw text

  lawful-less_than : (kind : RawKind) → AllLawful (told_at_less_than kind)
  lawful-less_than raw_kind.Rcdata = lawful-nil
  lawful-less_than raw_kind.Rawtext = lawful-nil
  lawful-less_than raw_kind.ScriptData = lawful-nil
  lawful-less_than (raw_kind.ScriptDataEscaped escape_kind.Escaped) = lawful-nil
  lawful-less_than (raw_kind.ScriptDataEscaped escape_kind.DoubleEscaped) = lawful-sign

  lawful-raw : (raw : Raw) (name : List ℕ) (before : List Told) → AllLawful before → LawfulHere (raw_step exact raw name before c)
  unfolding raw_step LawfulHere IsFit
  lawful-raw raw name before f =
      lawful-if (c == less_than) _ _ (λ e. (lawful-append before _ f (lawful-less_than (kind_of raw)), tt))
      (λ e. lawful-if (is_rcdata raw && (c == ampersand)) _ _ (λ g. (f, (tt, no_null-nil)))
      (λ g. (lawful-append before _ f (lawful-raw_character raw), tt)))

  -- a character that is not NUL is text, also after another
  lawful-one : (c == null) ≡ false → AllLawful (texts (c ∷ []))
  lawful-one h = lawful-texts (c ∷ []) (no_null-cons c [] h no_null-nil)

  lawful-two : (c == null) ≡ false → AllLawful (texts (less_than ∷ c ∷ []))
  lawful-two h = lawful-texts (less_than ∷ c ∷ []) (no_null-cons less_than (c ∷ []) refl (no_null-cons c [] h no_null-nil))

  hyphen-other : (c == hyphen) ≡ true → (c == null) ≡ false
  hyphen-other h = grind (arith, nat_tests)

  ends-other : ends_name c ≡ true → (c == null) ≡ false
  unfolding ends_name is_white_space
  ends-other h = grind (arith, nat_tests)

  mark-other : (kind : RawKind) → begins_mark kind c ≡ true → (c == null) ≡ false
  unfolding begins_mark
  mark-other raw_kind.Rcdata h = absurd (false≢true h)
  mark-other raw_kind.Rawtext h = absurd (false≢true h)
  mark-other raw_kind.ScriptData h = grind (arith, nat_tests)
  mark-other (raw_kind.ScriptDataEscaped kind) h = absurd (false≢true h)

  switch-letter : (kind : RawKind) → begins_switch kind c ≡ true → is_letter c ≡ true
  unfolding begins_switch
  switch-letter raw_kind.Rcdata h = absurd (false≢true h)
  switch-letter raw_kind.Rawtext h = absurd (false≢true h)
  switch-letter raw_kind.ScriptData h = absurd (false≢true h)
  switch-letter (raw_kind.ScriptDataEscaped escape_kind.Escaped) h = h
  switch-letter (raw_kind.ScriptDataEscaped escape_kind.DoubleEscaped) h = absurd (false≢true h)

  lawful-after_less_than : (kind : RawKind) (name : List ℕ) → LawfulHere (raw_less_than_step exact kind name c)
  unfolding raw_less_than_step LawfulHere IsFit
  lawful-after_less_than kind name =
      lawful-if (c == solidus) _ _ (λ e. lawful-raw_solidus kind name)
      (λ e. lawful-if (begins_mark kind c) _ _ (λ f. (lawful-two (mark-other kind f), tt))
      (λ f. lawful-if (begins_switch kind c) _ _ (λ g. (lawful-two (letter-no_null c (switch-letter kind g)), tt))
      (λ g. lawful-raw (raw_of kind) name _ (lawful-told_after kind))))

  -- the letters after `</`, with one more
  letters-push : (letters : List ℕ) → list_all is_letter letters ≡ true → is_letter c ≡ true → list_all is_letter (letters ++ c ∷ []) ≡ true
  letters-push letters all h = all-append is_letter letters (c ∷ []) all (rw h refl)

  -- an end tag that ends raw text has a name of letters
  fit-end_tag : (name letters : List ℕ) → list_all is_letter letters ≡ true → ends_raw_text name letters c ≡ true → IsFitTag (with_name (begun EndTag) letters)
  unfolding ends_raw_text
  fit-end_tag [] letters all h = absurd (false≢true h)
  fit-end_tag (b ∷ name) [] all h = absurd (false≢true (and_parts (ends_name c) false (and_parts (not (nat_eq (length (b ∷ name)) 0)) (ends_name c && false) h).1).1)
  fit-end_tag (b ∷ name) (d ∷ letters) all h = fit-begun EndTag d letters (and_parts (is_letter d) (list_all is_letter letters) all).0

  -- a step in raw text tells lawful tokens, and begins an end tag that is fit
  lawful-raw_place : (place : RawPlace) (name : List ℕ) → IsFit (InRaw place name) → LawfulHere (raw_place_step exact place name c)
  unfolding raw_place_step end_name_step switch_step mark_step mark_and_dash_step LawfulHere IsFit
  lawful-raw_place (AfterLessThan kind) name fit = lawful-after_less_than kind name
  lawful-raw_place (InEndName kind letters) name fit =
      lawful-if (is_letter c) _ _ (λ e. (lawful-nil, letters-push letters fit e))
      (λ e. lawful-if (ends_raw_text name letters c) _ _ (λ f. lawful-tag_name_end (with_name (begun EndTag) letters) (fit-end_tag name letters fit f))
      (λ f. lawful-raw (raw_of kind) name _ (lawful-letters letters fit)))
  lawful-raw_place AfterMark name fit =
      lawful-if (c == hyphen) _ _ (λ e. (lawful-one (hyphen-other e), tt)) (λ e. lawful-raw ScriptData name [] lawful-nil)
  lawful-raw_place AfterMarkAndDash name fit =
      lawful-if (c == hyphen) _ _ (λ e. (lawful-one (hyphen-other e), tt)) (λ e. lawful-raw ScriptData name [] lawful-nil)
  lawful-raw_place (InSwitch kind letters) name fit =
      lawful-if (is_letter c) _ _ (λ e. (lawful-one (letter-no_null c e), tt))
      (λ e. lawful-if (ends_name c) _ _ (λ f. (lawful-one (ends-other f), tt))
      (λ f. lawful-raw (raw_of (raw_kind.ScriptDataEscaped kind)) name [] lawful-nil))

  -- ---- comments, processing instructions and CDATA sections

  pub lawful-bogus_comment : (before : List ℕ) (first : List Told) → AllLawful first → LawfulHere (bogus_comment_step exact before first c)
  unfolding bogus_comment_step LawfulHere IsFit AllLawful
  lawful-bogus_comment before first f =
      lawful-if (c == greater_than) _ _ (λ e. (lawful-append first _ f (tt, tt), tt)) (λ e. (lawful-append first _ f (lawful-where _ _ tt), tt))

  lawful-comment : (before : List ℕ) → LawfulHere (comment_step exact before c)
  unfolding comment_step comment_end_error comment_errors mark_error LawfulHere IsFit AllLawful
  lawful-comment before =
      lawful-if ((c == greater_than) && ends_comment before) _ _ (λ e. (lawful-append (comment_end_error exact before) (Comment (comment_content before) ∷ []) (lawful-where _ _ tt) (tt, tt), tt))
      (λ e. (lawful-append (mark_error exact before c) (null_error exact (comment_state state.Comment before) c) (lawful-where _ _ tt) (lawful-where _ _ tt), tt))

  lawful-instruction : (before : List ℕ) → LawfulHere (instruction_step exact before c)
  unfolding instruction_step LawfulHere IsFit AllLawful
  lawful-instruction before = lawful-if (c == greater_than) _ _ (λ e. ((tt, tt), tt)) (λ e. (lawful-where _ _ tt, tt))

  no_null-take : (n : ℕ) (text : List ℕ) → has_no_null text ≡ true → has_no_null (take n text) ≡ true
  no_null-take zero text h = no_null-nil
  no_null-take (suc n) [] h = no_null-nil
  no_null-take (suc n) (b ∷ text) h =
      let parts = no_null-parts b text h in
      no_null-cons b (take n text) parts.0 (no_null-take n text parts.1)

  lawful-cdata : (held : List ℕ) → has_no_null held ≡ true → LawfulHere (cdata_step held c)
  unfolding cdata_step LawfulHere IsFit AllLawful
  lawful-cdata held h =
      lawful-if ((c == greater_than) && ends_cdata held) (Tells (told_at_end_of_cdata held) (Between Data)) _ (λ e. (lawful-texts (without_last 2 held) (no_null-take _ held h), tt))
      (λ e. lawful-if (c == null) _ _ (λ f. (lawful-append (texts held) _ (lawful-texts held h) (tt, tt), tt))
      (λ f. (tt, no_null-append held (c ∷ []) h (no_null-cons c [] f no_null-nil))))

  -- ---- doctypes

  pub lawful-skipped : (errors : List Told) (d : DoctypeOf) → IsLawfulDoctype d → AllLawful errors → LawfulHere (skipped_step exact errors d c)
  unfolding skipped_step LawfulHere IsFit
  lawful-skipped errors d lawful f =
      lawful-if (c == greater_than) _ _ (λ e. (lawful-append errors (Doctype d ∷ []) f (lawful-doctype_told d lawful), tt))
      (λ e. (lawful-append errors _ f (lawful-where _ _ tt), lawful))

  lawful-wanted_name : (errors : List Told) (d : DoctypeOf) → IsLawfulDoctype d → AllLawful errors → LawfulHere (wanted_name_step exact errors d c)
  unfolding wanted_name_step LawfulHere IsFit AllLawful
  lawful-wanted_name errors d lawful f =
      lawful-if (c == greater_than) _ _ (λ e. (lawful-append errors _ f (tt, (lawful-quirks d lawful, tt)), tt))
      (λ e. (lawful-append errors _ f (lawful-where _ _ tt), lawful-first d c))

  lawful-wanted_identifier : (is_direct : Bool) (named : State) (kind : DoctypeIdKind) (d : DoctypeOf) → IsLawfulDoctype d
      → LawfulHere (wanted_identifier_step exact is_direct named kind d c)
  unfolding wanted_identifier_step LawfulHere IsFit
  lawful-wanted_identifier is_direct named kind d lawful =
      lawful-if (c == quotation_mark) _ _ (λ e. (lawful-where is_direct (error_in exact named c) tt, lawful-begun_identifier kind d lawful))
      (λ e. lawful-if (c == apostrophe) _ _ (λ f. (lawful-where is_direct (error_in exact named c) tt, lawful-begun_identifier kind d lawful))
      (λ f. lawful-skipped (error_in exact named c ∷ []) (with_quirks d) (lawful-quirks d lawful) (lawful-error _)))

  lawful-system_or_end : (is_direct : Bool) (named : State) (d : DoctypeOf) → IsLawfulDoctype d → LawfulHere (system_or_end_step exact is_direct named d c)
  unfolding system_or_end_step LawfulHere IsFit
  lawful-system_or_end is_direct named d lawful =
      lawful-if (c == greater_than) _ _ (λ e. (lawful-doctype_told d lawful, tt)) (λ e. lawful-wanted_identifier is_direct named System d lawful)

  lawful-after_identifier : (kind : DoctypeIdKind) (d : DoctypeOf) → IsLawfulDoctype d → LawfulHere (after_identifier_step exact kind d c)
  unfolding after_identifier_step LawfulHere IsFit
  lawful-after_identifier Public d lawful =
      lawful-if (is_white_space c) _ _ (λ e. (lawful-nil, lawful)) (λ e. lawful-system_or_end true (state.AfterDoctypeIdentifier Public) d lawful)
  lawful-after_identifier System d lawful =
      lawful-if (is_white_space c) _ _ (λ e. (lawful-nil, lawful))
      (λ e. lawful-if (c == greater_than) _ _ (λ f. (lawful-doctype_told d lawful, tt)) (λ f. lawful-skipped _ d lawful (lawful-error _)))

  lawful-space : (place : DoctypePlace) (d : DoctypeOf) (next : Here Open) → IsLawfulDoctype d → LawfulHere next → LawfulHere (space_step place d c next)
  unfolding space_step LawfulHere IsFit
  lawful-space place d next lawful f = lawful-if (is_white_space c) (Tells [] (InDoctype place d)) next (λ e. (lawful-nil, lawful)) (λ e. f)

  -- a step in a doctype keeps it lawful, or tells it
  lawful-doctype : (place : DoctypePlace) (d : DoctypeOf) → IsLawfulDoctype d → LawfulHere (doctype_step exact place d c)
  unfolding doctype_step doctype_name_step keyword_or_end_step identifier_step LawfulHere IsFit AllLawful
  lawful-doctype AfterWord d lawful = lawful-space _ d _ lawful (lawful-wanted_name (word_error exact c) d lawful (lawful-where _ _ tt))
  lawful-doctype BeforeName d lawful = lawful-space _ d _ lawful (lawful-wanted_name [] d lawful tt)
  lawful-doctype InDoctypeName d lawful =
      lawful-if (in_doctype_name c) _ _ (λ e. (lawful-where _ _ tt, lawful-name d (c ∷ []) lawful))
      (λ e. lawful-if (c == greater_than) _ _ (λ f. ((lawful, tt), tt)) (λ f. (tt, lawful)))
  lawful-doctype AfterName d lawful =
      lawful-space _ d _ lawful (lawful-if (c == greater_than) _ _ (λ e. ((lawful, tt), tt))
      (λ e. lawful-if (begins_doctype_keyword (c ∷ [])) _ _ (λ f. (tt, lawful)) (λ f. lawful-skipped _ _ (lawful-quirks d lawful) (tt, tt))))
  lawful-doctype (AfterKeyword kind) d lawful = lawful-space _ d _ lawful (lawful-wanted_identifier true (state.AfterDoctypeKeyword kind) kind d lawful)
  lawful-doctype (BeforeIdentifier kind) d lawful = lawful-space _ d _ lawful (lawful-wanted_identifier false (state.BeforeDoctypeIdentifier kind) kind d lawful)
  lawful-doctype (InIdentifier quotes kind) d lawful =
      lawful-if (in_identifier quotes c) _ _ (λ e. (lawful-where _ _ tt, lawful-identifier kind d (c ∷ []) lawful))
      (λ e. lawful-if (c == greater_than) _ _ (λ f. ((tt, (lawful-quirks d lawful, tt)), tt)) (λ f. (tt, lawful)))
  lawful-doctype (AfterIdentifier kind) d lawful = lawful-after_identifier kind d lawful
  lawful-doctype BetweenIdentifiers d lawful = lawful-space _ d _ lawful (lawful-system_or_end false state.BetweenDoctypePublicAndSystemIdentifiers d lawful)
  lawful-doctype Skipped d lawful = lawful-skipped [] d lawful tt

  -- ---- all that may be open

  -- the same for all that may be open
  pub lawful-step_at : (opened : Open) → IsFit opened → LawfulHere (step_at exact opened c)
  unfolding step_at less_than_step solidus_step LawfulHere IsFit AllLawful
  lawful-step_at (Between Data) fit = lawful-data [] tt
  lawful-step_at (Between Plain) fit = (lawful-plain_text, tt)
  lawful-step_at (Between Cdata) fit = lawful-cdata [] no_null-nil
  lawful-step_at (Between (RawText raw name)) fit = lawful-raw raw name [] tt
  lawful-step_at LessThan fit =
      lawful-if (is_letter c) _ _ (λ e. lawful-tag_begun StartTag e)
      (λ e. lawful-if (c == solidus) _ _ (λ f. (tt, tt))
      (λ f. lawful-if (c == exclamation_mark) _ _ (λ g. (tt, tt))
      (λ g. lawful-if (c == question_mark) _ _ (λ h. (tt, tt)) (λ h. lawful-data _ (tt, (no_null-cons less_than [] refl no_null-nil, tt))))))
  lawful-step_at LessThanSolidus fit =
      lawful-if (is_letter c) _ _ (λ e. lawful-tag_begun EndTag e)
      (λ e. lawful-if (c == greater_than) _ _ (λ f. ((tt, tt), tt)) (λ f. lawful-bogus_comment [] _ (tt, tt)))
  lawful-step_at (InTag place tag) fit = lawful-tag place tag fit
  lawful-step_at (InRaw place name) fit = lawful-raw_place place name fit
  lawful-step_at (InDeclaration held) fit = (tt, tt)
  lawful-step_at (InComment before) fit = lawful-comment before
  lawful-step_at (InBogusComment before) fit = lawful-bogus_comment before [] tt
  lawful-step_at (InInstruction before) fit = lawful-instruction before
  lawful-step_at (InDoctype place d) fit = lawful-doctype place d fit
  lawful-step_at (InDoctypeKeyword held d) fit = (tt, fit)
  lawful-step_at (InCdata held) fit = lawful-cdata held fit
  lawful-step_at (InReference stand held) fit = (tt, fit)
