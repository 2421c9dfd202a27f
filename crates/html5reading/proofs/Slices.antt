-- The slices do at each character what the machine does.
use Rattle.std.proofs.Common.{◌≡◌, ℕ, Bool, true, false, List, [], ◌∷◌, ◌++◌, refl, ap, sym, subst, ◌∙◌}
use Rattle.std.specs.Prelude.{◌==◌, ◌&&◌, not, flat_map, drop, codes, Option, None, Some, if◌then◌else◌}
use Rattle.std.proofs.Math.Bool.{and-false}
use Rattle.std.proofs.lemmas.List.{append_assoc, append-nil}
use Rattle.html5ever_interface.specs.Token.{Told, DoctypeOf}
use Rattle.html5ever_interface.specs.Token.Told.{Text, Comment, Instruction, Doctype}
use Rattle.html5ever_interface.specs.declared.interface.token.TagKind.TheVariants.{StartTag, EndTag}
use Rattle.html5ever_interface.specs.declared.states.AttrValueKind.{AttrValueKind}
use Rattle.html5ever_interface.specs.declared.states.AttrValueKind.TheVariants.{Unquoted, SingleQuoted, DoubleQuoted}
use Rattle.html5ever_interface.specs.declared.states.DoctypeIdKind.{DoctypeIdKind}
use Rattle.html5ever_interface.specs.declared.states.DoctypeIdKind.TheVariants.{Public, System}
use Rattle.html5ever_interface.specs.declared.states.RawKind.{RawKind}
use Rattle.html5ever_interface.specs.declared.states.RawKind.TheVariants as raw_kind
use Rattle.html5ever_interface.specs.declared.states.ScriptEscapeKind.{ScriptEscapeKind}
use Rattle.html5ever_interface.specs.declared.states.ScriptEscapeKind.TheVariants as escape_kind
use Rattle.html5ever_interface.specs.declared.states.State.{State}
use Rattle.html5ever_interface.specs.declared.states.State.TheVariants as state
use Rattle.html5reading.specs.Cdata.{ends_cdata, cdata, cdata_from}
use Rattle.html5reading.specs.Characters.{null, exclamation_mark, quotation_mark, ampersand, apostrophe, hyphen, solidus, less_than, equals_sign, greater_than, question_mark, is_letter, is_white_space, name_bytes, value_bytes, lower_case}
use Rattle.html5reading.specs.Reference.{in_value, reference, is_undecided, ends_number, characters_in, opened_in, late_tokens, opened_after, after_held, reference_text, with_value}
use Rattle.html5reading.specs.Tag.{null_error, in_quoted, in_unquoted, unquoted_error, in_attribute_name, attribute_name_error, with_last_name, place_error, is_after_solidus, in_tag_name, with_name, closing, after_tag_name, tag_name, after_quoted, quoted_value, after_unquoted, unquoted_value, value, value_after_space, value_or_next, after_name_and_space, after_attribute_name, attribute_after_first, part}
use Rattle.std.specs.Str.{bytes_eq}
use Rattle.html5reading.specs.Comment.{ends_comment, comment, in_bogus_comment, after_bogus_comment, bogus_comment, bogus_comment_from, begins_keyword, declaration_error, declaration, cdata_keyword, begins_cdata, declaration_by_answer}
use Rattle.html5reading.specs.Doctype.{with_quirks, with_more, with_doctype_name, with_identifier, in_skipped_rest, after_skipped_rest, skipped_rest, skipped_from, identifier_state, in_identifier, after_in_identifier, identifier, wanted_identifier, system_or_end, after_space_between, between_identifiers, after_identifier, after_keyword_and_space, identifier_after_space, after_keyword, is_keyword, begins_doctype_keyword, keyword_error, doctype_keyword, keyword_or_end, after_doctype_name_and_space, after_doctype_name, in_doctype_name, doctype_name, wanted_name, after_word_and_space, before_doctype_name, word_error, doctype}
use Rattle.html5reading.specs.Instruction.{in_instruction, after_instruction, instruction}
use Rattle.html5reading.specs.RawText.{raw_text_of, texts, ends_name, is_rcdata, ends_raw_text, after_end_name, end_name, after_mark, after_mark_and_dash, switched, after_switch, switch, told_after_less_than, after_raw_solidus, begins_mark, begins_switch, after_raw_less_than, raw_text}
use Rattle.html5reading.specs.Text.{after_solidus, after_less_than, data_text}
use Rattle.html5reading.specs.ErrorText.{error_in}
use Rattle.html5reading.specs.Cutting.{rest_of, next_slice, slice_at}
use Rattle.html5reading.specs.Reading.{Here, Brought, at_first, here, brought_without_answer, brought}
use Rattle.html5reading.specs.Reading.Here.{Tells, TellsTag}
use Rattle.html5reading.specs.Slice.{Slice, with_run, run_of, after_run, silent, run_while, after_while, no_character, with_character}
use Rattle.html5reading.specs.Slice.Cell.{Says}
use Rattle.html5reading.specs.Slice.Afterwards.{Leaves}
use Rattle.html5reading.specs.Start.{Mode, Raw, OpenTag, Place, RawPlace, Quotes, DoctypePlace, Stand, Open, Rules, begun, raw_of}
use Rattle.html5reading.specs.Start.Stand.{InText, InAttribute}
use Rattle.html5reading.specs.Start.Raw.{ScriptData}
use Rattle.html5reading.specs.Start.Mode.{Data, Plain, RawText, Cdata}
use Rattle.html5reading.specs.Start.RawPlace.{AfterLessThan, InEndName, AfterMark, AfterMarkAndDash, InSwitch}
use Rattle.html5reading.specs.Start.Place.{InName, BeforeAttribute, InAttributeName, AfterAttributeName, BeforeValue, InValue, AfterQuotedValue, AfterSolidus}
use Rattle.html5reading.specs.Start.DoctypePlace.{AfterWord, BeforeName, InDoctypeName, AfterName, AfterKeyword, BeforeIdentifier, InIdentifier, AfterIdentifier, BetweenIdentifiers, Skipped}
use Rattle.html5reading.specs.Start.Open.{Between, LessThan, LessThanSolidus, InTag, InRaw, InDeclaration, InComment, InBogusComment, InInstruction, InDoctype, InDoctypeKeyword, InCdata, InReference}
use Rattle.html5reading.specs.Machine.{step_at, brought_at, reference_step, closing_step, tag_name_step, part_step, attribute_name_step, after_attribute_name_step, quoted_step, unquoted_step, before_value_step, tag_step, data_step, less_than_step, solidus_step, bogus_comment_step, comment_step, instruction_step, cdata_step, skipped_step, wanted_name_step, doctype_name_step, keyword_or_end_step, wanted_identifier_step, system_or_end_step, identifier_step, after_identifier_step, space_step, doctype_step, declaration_answer_step, declaration_step, doctype_keyword_step, raw_step, tag_name_end_step, end_name_step, switch_step, mark_step, mark_and_dash_step, raw_solidus_step, raw_less_than_step, raw_place_step}

abbrev pub going : {F G : Type 0} → (F → G) → Here F → Here G
going f (Tells told goes_on) = Tells told (f goes_on)
going f (TellsTag told tag) = TellsTag told tag

-- a run that goes on
pub with_run-member : (is_kind : ℕ → Bool) (tells : ℕ → List Told) (afterwards : List ℕ → List ℕ → Slice) (c : ℕ) (text : List ℕ) → is_kind c ≡ true
    → with_run tells (run_of is_kind (c ∷ text)) (afterwards (run_of is_kind (c ∷ text)) (after_run is_kind (c ∷ text)))
    ≡ record {
      cells = Says (tells c) ∷ (with_run tells (run_of is_kind text) (afterwards (c ∷ run_of is_kind text) (after_run is_kind text))).cells;
      afterwards = (afterwards (c ∷ run_of is_kind text) (after_run is_kind text)).afterwards;
    }
unfolding run_of after_run
with_run-member is_kind tells afterwards c text h = rw h refl

-- a run that ends at once
pub with_run-none : (is_kind : ℕ → Bool) (tells : ℕ → List Told) (afterwards : List ℕ → List ℕ → Slice) (c : ℕ) (text : List ℕ) → is_kind c ≡ false
    → with_run tells (run_of is_kind (c ∷ text)) (afterwards (run_of is_kind (c ∷ text)) (after_run is_kind (c ∷ text)))
    ≡ afterwards [] (c ∷ text)
unfolding run_of after_run
with_run-none is_kind tells afterwards c text h = rw h refl

-- the same where the kind is one of the run so far

with_while-member : (is_kind : List ℕ → Bool) (afterwards : List ℕ → List ℕ → Slice) (held : List ℕ) (c : ℕ) (text : List ℕ) → is_kind (held ++ c ∷ []) ≡ true
    → with_run silent (run_while is_kind held (c ∷ text)) (afterwards (held ++ run_while is_kind held (c ∷ text)) (after_while is_kind held (c ∷ text)))
    ≡ with_character [] (with_run silent (run_while is_kind (held ++ c ∷ []) text)
    (afterwards ((held ++ c ∷ []) ++ run_while is_kind (held ++ c ∷ []) text) (after_while is_kind (held ++ c ∷ []) text)))
unfolding run_while after_while
with_while-member is_kind afterwards held c text h =
    let run : List ℕ = run_while is_kind (held ++ c ∷ []) text in
    let later : List ℕ = after_while is_kind (held ++ c ∷ []) text in
    rw h (ap (λ (all : List ℕ). with_run silent (c ∷ run) (afterwards all later)) (sym (append_assoc held (c ∷ []) run)))

with_while-none : (is_kind : List ℕ → Bool) (afterwards : List ℕ → List ℕ → Slice) (held : List ℕ) (c : ℕ) (text : List ℕ) → is_kind (held ++ c ∷ []) ≡ false
    → with_run silent (run_while is_kind held (c ∷ text)) (afterwards (held ++ run_while is_kind held (c ∷ text)) (after_while is_kind held (c ∷ text)))
    ≡ afterwards held (c ∷ text)
unfolding run_while after_while
with_while-none is_kind afterwards held c text h = rw h (ap (λ (all : List ℕ). afterwards all (c ∷ text)) (append-nil held))

-- a tag with more of its name, or of its last attribute

pub with_name-nil : (tag : OpenTag) → with_name tag [] ≡ tag
with_name-nil tag = rw (append-nil tag.name) refl

pub with_last_name-nil : (tag : OpenTag) → with_last_name tag [] ≡ tag
with_last_name-nil tag = rw (append-nil tag.last_name) refl

pub with_value-nil : (tag : OpenTag) → with_value tag [] ≡ tag
with_value-nil tag = rw (append-nil tag.last_value) refl

pub bytes-cons : (bytes : ℕ → List ℕ) (front : List ℕ) (c : ℕ) (run : List ℕ)
    → front ++ flat_map bytes (c ∷ run) ≡ (front ++ flat_map bytes (c ∷ [])) ++ flat_map bytes run
bytes-cons bytes front c run = rw (append-nil (bytes c)) (sym (append_assoc front (bytes c) (flat_map bytes run)))

pub with_name-cons : (tag : OpenTag) (c : ℕ) (run : List ℕ) → with_name tag (c ∷ run) ≡ with_name (with_name tag (c ∷ [])) run
with_name-cons tag c run = ap (λ name. record tag { name = name }) (bytes-cons name_bytes tag.name c run)

pub with_last_name-cons : (tag : OpenTag) (c : ℕ) (run : List ℕ) → with_last_name tag (c ∷ run) ≡ with_last_name (with_last_name tag (c ∷ [])) run
with_last_name-cons tag c run = ap (λ name. record tag { last_name = name }) (bytes-cons name_bytes tag.last_name c run)

pub with_value-cons : (tag : OpenTag) (c : ℕ) (run : List ℕ) → with_value tag (c ∷ run) ≡ with_value (with_value tag (c ∷ [])) run
with_value-cons tag c run = ap (λ value. record tag { last_value = value }) (bytes-cons value_bytes tag.last_value c run)

-- a doctype with more of its name, or of an identifier

with_more-nil : (begun : Option (List ℕ)) → with_more begun [] ≡ begun
with_more-nil None = refl
with_more-nil (Some before) = ap Some (append-nil before)

with_more-cons : (bytes : ℕ → List ℕ) (begun : Option (List ℕ)) (c : ℕ) (run : List ℕ)
    → with_more begun (flat_map bytes (c ∷ run)) ≡ with_more (with_more begun (flat_map bytes (c ∷ []))) (flat_map bytes run)
with_more-cons bytes None c run = refl
with_more-cons bytes (Some before) c run = ap Some (bytes-cons bytes before c run)

pub with_doctype_name-nil : (d : DoctypeOf) → with_doctype_name d [] ≡ d
with_doctype_name-nil d = ap (λ name. record d { name = name }) (with_more-nil d.name)

pub with_doctype_name-cons : (d : DoctypeOf) (c : ℕ) (run : List ℕ) → with_doctype_name d (c ∷ run) ≡ with_doctype_name (with_doctype_name d (c ∷ [])) run
with_doctype_name-cons d c run = ap (λ name. record d { name = name }) (with_more-cons name_bytes d.name c run)

pub with_identifier-nil : (kind : DoctypeIdKind) (d : DoctypeOf) → with_identifier kind d [] ≡ d
with_identifier-nil Public d = ap (λ id. record d { public_id = id }) (with_more-nil d.public_id)
with_identifier-nil System d = ap (λ id. record d { system_id = id }) (with_more-nil d.system_id)

pub with_identifier-cons : (kind : DoctypeIdKind) (d : DoctypeOf) (c : ℕ) (run : List ℕ)
    → with_identifier kind d (c ∷ run) ≡ with_identifier kind (with_identifier kind d (c ∷ [])) run
with_identifier-cons Public d c run = ap (λ id. record d { public_id = id }) (with_more-cons value_bytes d.public_id c run)
with_identifier-cons System d c run = ap (λ id. record d { system_id = id }) (with_more-cons value_bytes d.system_id c run)

-- a choice by what isn't so
flipped : {X : Type 0} → (test : Bool) (p q : X) → (if test then p else q) ≡ (if not test then q else p)
flipped true p q = refl
flipped false p q = refl

module _ (rules : Rules) (foreign : Bool) (c : ℕ) (text : List ℕ) where
  abbrev rest : Open → Slice
  rest opened = rest_of rules opened text

  abbrev decides_nothing : Slice → Type 0
  decides_nothing slice = brought rules foreign slice c text ≡ record { settled = []; here = here rules slice c text }

  -- the slice decides nothing that stands before c, and tells at c what the step does
  abbrev pub follows : Slice → Here Open → Type 0
  follows slice step =
      (here rules slice c text ≡ going rest step) × decides_nothing slice

  follows-if : (test : Bool) (a b : Slice) (p q : Here Open) → follows a p → follows b q → follows (if test then a else b) (if test then p else q)
  follows-if true a b p q f g = f
  follows-if false a b p q f g = g

  -- the same of a slice that c begins
  abbrev pub begins : Slice → Here Open → Type 0
  begins slice step = at_first rules text slice.cells slice.afterwards ≡ going rest step

  begins-if : (test : Bool) (a b : Slice) (p q : Here Open) → begins a p → begins b q → begins (if test then a else b) (if test then p else q)
  begins-if true a b p q f g = f
  begins-if false a b p q f g = g

  begins-closing : (errors : List Told) (tag : OpenTag) (self_closing : Bool) → begins (closing errors tag self_closing) (closing_step errors tag self_closing)
  unfolding closing closing_step
  begins-closing errors tag self_closing = refl

  -- what goes on inside a run, and the text after it
  follows-run : (is_kind : ℕ → Bool) (tells : ℕ → List Told) (afterwards : List ℕ → List ℕ → Slice) (opened : Open) (next : Here Open)
      → (rest_of rules opened text ≡ with_run tells (run_of is_kind text) (afterwards (c ∷ run_of is_kind text) (after_run is_kind text)))
      → follows (afterwards [] (c ∷ text)) next
      → (member : Bool) → is_kind c ≡ member
      → follows (with_run tells (run_of is_kind (c ∷ text)) (afterwards (run_of is_kind (c ∷ text)) (after_run is_kind (c ∷ text))))
      (if member then Tells (tells c) opened else next)
  unfolding here slice_at brought
  follows-run is_kind tells afterwards opened next inside stops true h =
      let e = with_run-member is_kind tells afterwards c text h in
      (ap (λ (s : Slice). here rules s c text) e ∙ rw inside refl, subst decides_nothing (sym e) refl)
  follows-run is_kind tells afterwards opened next inside stops false h =
      let e = with_run-none is_kind tells afterwards c text h in
      (ap (λ (s : Slice). here rules s c text) e ∙ stops.0, subst decides_nothing (sym e) stops.1)

  follows-closing : (errors : List Told) (tag : OpenTag) (self_closing : Bool) → follows (closing errors tag self_closing) (closing_step errors tag self_closing)
  unfolding here slice_at brought closing closing_step
  follows-closing errors tag self_closing = (refl, refl)

  follows-after_tag_name : (tag : OpenTag) → follows (after_tag_name tag (c ∷ text))
      (if is_white_space c then Tells [] (InTag BeforeAttribute tag) else if c == solidus then Tells [] (InTag AfterSolidus tag) else closing_step [] tag false)
  unfolding after_tag_name here slice_at brought rest_of
  follows-after_tag_name tag =
      follows-if (is_white_space c) _ _ _ _ (refl, refl) (follows-if (c == solidus) _ _ _ _ (refl, refl) (follows-closing [] tag false))

  follows-tag_name : (tag : OpenTag) → follows (tag_name rules.exact tag (c ∷ text)) (tag_name_step rules.exact tag c)
  unfolding tag_name tag_name_step rest_of
  follows-tag_name tag =
      follows-run in_tag_name (null_error rules.exact state.TagName) (λ run rest. after_tag_name (with_name tag run) rest) (InTag InName (with_name tag (c ∷ []))) _
      (rw (with_name-cons tag c (run_of in_tag_name text)) refl)
      (rw (with_name-nil tag) (follows-after_tag_name tag))
      (in_tag_name c) refl

  follows-after_quoted : (kind : AttrValueKind) (tag : OpenTag) → follows (after_quoted rules kind tag (c ∷ text))
      (if c == ampersand then Tells [] (InReference (InAttribute kind tag) []) else Tells [] (InTag AfterQuotedValue tag))
  unfolding after_quoted here slice_at brought rest_of
  follows-after_quoted kind tag = follows-if (c == ampersand) _ _ _ _ (refl, refl) (refl, refl)

  follows-quoted : (kind : AttrValueKind) (tag : OpenTag)
      → ((t : OpenTag) → rest_of rules (InTag (InValue kind) t) text ≡ quoted_value rules kind t text)
      → follows (quoted_value rules kind tag (c ∷ text)) (quoted_step rules.exact kind tag c)
  unfolding quoted_value quoted_step
  follows-quoted kind tag rest =
      follows-run (in_quoted kind) (null_error rules.exact (state.AttributeValue kind)) (λ run later. after_quoted rules kind (with_value tag run) later) (InTag (InValue kind) (with_value tag (c ∷ []))) _
      (rest (with_value tag (c ∷ [])) ∙ rw (with_value-cons tag c (run_of (in_quoted kind) text)) refl)
      (rw (with_value-nil tag) (follows-after_quoted kind tag))
      (in_quoted kind c) refl

  follows-after_unquoted : (tag : OpenTag) → follows (after_unquoted rules tag (c ∷ text))
      (if c == ampersand then Tells [] (InReference (InAttribute Unquoted tag) []) else if c == greater_than then closing_step [] tag false else Tells [] (InTag BeforeAttribute tag))
  unfolding after_unquoted here slice_at brought rest_of
  follows-after_unquoted tag =
      follows-if (c == ampersand) _ _ _ _ (refl, refl) (follows-if (c == greater_than) _ _ _ _ (follows-closing [] tag false) (refl, refl))

  follows-unquoted : (tag : OpenTag) → follows (unquoted_value rules tag (c ∷ text)) (unquoted_step rules.exact tag c)
  unfolding unquoted_value unquoted_step rest_of
  follows-unquoted tag =
      follows-run in_unquoted (unquoted_error rules.exact) (λ run later. after_unquoted rules (with_value tag run) later) (InTag (InValue Unquoted) (with_value tag (c ∷ []))) _
      (rw (with_value-cons tag c (run_of in_unquoted text)) refl)
      (rw (with_value-nil tag) (follows-after_unquoted tag))
      (in_unquoted c) refl

  -- a value and what comes before it

  -- a value: its slice tells at c what the machine tells there
  follows-value : (tag : OpenTag) → follows (value rules tag (c ∷ text))
      (if c == quotation_mark then Tells [] (InTag (InValue DoubleQuoted) tag)
      else if c == apostrophe then Tells [] (InTag (InValue SingleQuoted) tag)
      else if c == greater_than then closing_step (error_in rules.exact state.BeforeAttributeValue equals_sign ∷ []) tag false
      else unquoted_step rules.exact tag c)
  unfolding value here slice_at brought rest_of
  follows-value tag =
      follows-if (c == quotation_mark) _ _ _ _ (refl, refl)
      (follows-if (c == apostrophe) _ _ _ _ (refl, refl)
      (follows-if (c == greater_than) _ _ _ _ (follows-closing (error_in rules.exact state.BeforeAttributeValue equals_sign ∷ []) tag false)
      (follows-unquoted tag)))

  follows-value_after_space : (tag : OpenTag) → follows (value_after_space rules tag (c ∷ text)) (before_value_step rules.exact tag c)
  unfolding value_after_space before_value_step rest_of
  follows-value_after_space tag =
      follows-run is_white_space silent (λ run later. value rules tag later) (InTag BeforeValue tag) _ refl (follows-value tag) (is_white_space c) refl

  -- attributes

  begins-part : (place : Place) (tag : OpenTag) → begins (part rules place tag c text) (part_step rules.exact place tag c)
  unfolding part part_step rest_of
  begins-part place tag =
      begins-if (c == greater_than) _ _ _ _ (begins-closing (place_error rules.exact place c) tag (is_after_solidus place))
      (begins-if (is_white_space c) _ _ _ _ refl (begins-if (c == solidus) _ _ _ _ refl refl))

  follows-value_or_next : (tag : OpenTag) → follows (value_or_next rules tag (c ∷ text))
      (if c == equals_sign then Tells [] (InTag BeforeValue tag) else part_step rules.exact AfterAttributeName tag c)
  unfolding value_or_next here slice_at brought rest_of next_slice
  follows-value_or_next tag = follows-if (c == equals_sign) _ _ _ _ (refl, refl) (begins-part AfterAttributeName tag, refl)

  follows-after_name_and_space : (tag : OpenTag) → follows (after_name_and_space rules tag (c ∷ text)) (after_attribute_name_step rules.exact tag c)
  unfolding after_name_and_space after_attribute_name_step rest_of
  follows-after_name_and_space tag =
      follows-run is_white_space silent (λ run later. value_or_next rules tag later) (InTag AfterAttributeName tag) _ refl (follows-value_or_next tag) (is_white_space c) refl

  follows-after_attribute_name : (tag : OpenTag) → follows (after_attribute_name rules tag (c ∷ text))
      (if is_white_space c then Tells [] (InTag AfterAttributeName tag)
      else if c == solidus then Tells [] (InTag AfterSolidus tag)
      else if c == equals_sign then Tells [] (InTag BeforeValue tag)
      else closing_step [] tag false)
  unfolding after_attribute_name here slice_at brought rest_of
  follows-after_attribute_name tag =
      follows-if (is_white_space c) _ _ _ _ (refl, refl)
      (follows-if (c == solidus) _ _ _ _ (refl, refl) (follows-if (c == equals_sign) _ _ _ _ (refl, refl) (follows-closing [] tag false)))

  follows-attribute_after_first : (tag : OpenTag) → follows (attribute_after_first rules tag (c ∷ text)) (attribute_name_step rules.exact tag c)
  unfolding attribute_after_first attribute_name_step rest_of
  follows-attribute_after_first tag =
      follows-run in_attribute_name (attribute_name_error rules.exact) (λ run later. after_attribute_name rules (with_last_name tag run) later) (InTag InAttributeName (with_last_name tag (c ∷ []))) _
      (rw (with_last_name-cons tag c (run_of in_attribute_name text)) refl)
      (rw (with_last_name-nil tag) (follows-after_attribute_name tag))
      (in_attribute_name c) refl

  -- text

  begins-data_text : (before : List Told) → begins (data_text rules before c text) (data_step rules.exact before c)
  unfolding data_text data_step rest_of
  begins-data_text before =
      begins-if (c == less_than) _ _ _ _ refl
      (begins-if (c == ampersand) _ _ _ _ refl (begins-if (c == null) _ _ _ _ refl refl))

  begins-bogus_comment : (before : List ℕ) (first : List Told) → begins (bogus_comment_from rules.exact before first c text) (bogus_comment_step rules.exact before first c)
  unfolding bogus_comment_from bogus_comment_step rest_of
  begins-bogus_comment before first = begins-if (c == greater_than) _ _ _ _ refl refl

  follows-bogus_comment_from : (before : List ℕ) (first : List Told)
      → follows (no_character (Leaves first (InBogusComment before))) (bogus_comment_step rules.exact before first c)
  unfolding here slice_at brought next_slice
  follows-bogus_comment_from before first = (begins-bogus_comment before first, refl)

  follows-after_bogus_comment : (before : List ℕ) → follows (after_bogus_comment before (c ∷ text)) (Tells (Comment before ∷ []) (Between Data))
  unfolding after_bogus_comment here slice_at brought rest_of
  follows-after_bogus_comment before = (refl, refl)

  bogus_comment_step-run : (before : List ℕ) → bogus_comment_step rules.exact before [] c
      ≡ (if in_bogus_comment c then Tells (null_error rules.exact state.BogusComment c) (InBogusComment (before ++ flat_map value_bytes (c ∷ []))) else Tells (Comment before ∷ []) (Between Data))
  unfolding bogus_comment_step in_bogus_comment
  bogus_comment_step-run before = rw (append-nil (value_bytes c)) (flipped (c == greater_than) _ _)

  follows-bogus_comment : (before : List ℕ) → follows (bogus_comment rules.exact before (c ∷ text)) (bogus_comment_step rules.exact before [] c)
  unfolding bogus_comment rest_of
  follows-bogus_comment before =
      rw (bogus_comment_step-run before)
      (follows-run in_bogus_comment (null_error rules.exact state.BogusComment) (λ run later. after_bogus_comment (before ++ flat_map value_bytes run) later) (InBogusComment (before ++ flat_map value_bytes (c ∷ []))) _
      (rw (bytes-cons value_bytes before c (run_of in_bogus_comment text)) refl)
      (rw (append-nil before) (follows-after_bogus_comment before))
      (in_bogus_comment c) refl)

  -- processing instructions

  follows-after_instruction : (before : List ℕ) → follows (after_instruction before (c ∷ text)) (Tells (Instruction before ∷ []) (Between Data))
  unfolding after_instruction here slice_at brought rest_of
  follows-after_instruction before = (refl, refl)

  instruction_step-run : (before : List ℕ) → instruction_step rules.exact before c
      ≡ (if in_instruction c then Tells (null_error rules.exact state.ProcessingInstruction c) (InInstruction (before ++ flat_map value_bytes (c ∷ []))) else Tells (Instruction before ∷ []) (Between Data))
  unfolding instruction_step in_instruction
  instruction_step-run before = rw (append-nil (value_bytes c)) (flipped (c == greater_than) _ _)

  follows-instruction : (before : List ℕ) → follows (instruction rules.exact before (c ∷ text)) (instruction_step rules.exact before c)
  unfolding instruction rest_of
  follows-instruction before =
      rw (instruction_step-run before)
      (follows-run in_instruction (null_error rules.exact state.ProcessingInstruction) (λ run later. after_instruction (before ++ flat_map value_bytes run) later) (InInstruction (before ++ flat_map value_bytes (c ∷ []))) _
      (rw (bytes-cons value_bytes before c (run_of in_instruction text)) refl)
      (rw (append-nil before) (follows-after_instruction before))
      (in_instruction c) refl)

  follows-comment : (before : List ℕ) → follows (comment rules.exact before (c ∷ text)) (comment_step rules.exact before c)
  unfolding comment comment_step here slice_at brought rest_of
  follows-comment before = follows-if ((c == greater_than) && ends_comment before) _ _ _ _ (refl, refl) (refl, refl)

  -- CDATA sections

  follows-cdata : (held : List ℕ) → follows (cdata held (c ∷ text)) (cdata_step held c)
  unfolding cdata cdata_step here slice_at brought rest_of
  follows-cdata held =
      follows-if ((c == greater_than) && ends_cdata held) _ _ _ _ (refl, refl) (follows-if (c == null) _ _ _ _ (refl, refl) (refl, refl))

  begins-cdata_from : begins (cdata_from [] c text) (cdata_step [] c)
  unfolding cdata_from cdata_step ends_cdata rest_of
  begins-cdata_from = rw (and-false (c == greater_than)) (begins-if (c == null) _ _ _ _ refl refl)

  -- doctypes

  follows-after_skipped_rest : (d : DoctypeOf) → follows (after_skipped_rest d (c ∷ text)) (Tells (Doctype d ∷ []) (Between Data))
  unfolding after_skipped_rest here slice_at brought rest_of
  follows-after_skipped_rest d = (refl, refl)

  follows-skipped_rest : (d : DoctypeOf) → follows (skipped_rest rules.exact d (c ∷ text)) (skipped_step rules.exact [] d c)
  unfolding skipped_rest skipped_step in_skipped_rest rest_of
  follows-skipped_rest d =
      rw (flipped (c == greater_than) (Tells (Doctype d ∷ []) (Between Data)) (Tells (null_error rules.exact state.BogusDoctype c) (InDoctype Skipped d)))
      (follows-run in_skipped_rest (null_error rules.exact state.BogusDoctype) (λ run later. after_skipped_rest d later) (InDoctype Skipped d) _
      refl (follows-after_skipped_rest d) (in_skipped_rest c) refl)

  follows-skipped_from : (errors : List Told) (d : DoctypeOf) → follows (skipped_from rules.exact errors d c text) (skipped_step rules.exact errors d c)
  unfolding skipped_from skipped_step here slice_at brought rest_of
  follows-skipped_from errors d = follows-if (c == greater_than) _ _ _ _ (refl, refl) (refl, refl)

  follows-after_in_identifier : (quotes : Quotes) (kind : DoctypeIdKind) (d : DoctypeOf) → follows (after_in_identifier rules.exact quotes kind d (c ∷ text))
      (if c == greater_than then Tells (error_in rules.exact (identifier_state quotes kind) c ∷ Doctype (with_quirks d) ∷ []) (Between Data) else Tells [] (InDoctype (AfterIdentifier kind) d))
  unfolding after_in_identifier here slice_at brought rest_of
  follows-after_in_identifier quotes kind d = follows-if (c == greater_than) _ _ _ _ (refl, refl) (refl, refl)

  follows-identifier : (quotes : Quotes) (kind : DoctypeIdKind) (d : DoctypeOf) → follows (identifier rules.exact quotes kind d (c ∷ text)) (identifier_step rules.exact quotes kind d c)
  unfolding identifier identifier_step rest_of
  follows-identifier quotes kind d =
      follows-run (in_identifier quotes) (null_error rules.exact (identifier_state quotes kind)) (λ run later. after_in_identifier rules.exact quotes kind (with_identifier kind d run) later) (InDoctype (InIdentifier quotes kind) (with_identifier kind d (c ∷ []))) _
      (rw (with_identifier-cons kind d c (run_of (in_identifier quotes) text)) refl)
      (rw (with_identifier-nil kind d) (follows-after_in_identifier quotes kind d))
      (in_identifier quotes c) refl

  follows-wanted_identifier : (is_direct : Bool) (named : State) (kind : DoctypeIdKind) (d : DoctypeOf)
      → follows (wanted_identifier rules.exact is_direct named kind d c text) (wanted_identifier_step rules.exact is_direct named kind d c)
  unfolding wanted_identifier wanted_identifier_step here slice_at brought rest_of
  follows-wanted_identifier is_direct named kind d =
      follows-if (c == quotation_mark) _ _ _ _ (refl, refl) (follows-if (c == apostrophe) _ _ _ _ (refl, refl) (follows-skipped_from _ (with_quirks d)))

  follows-system_or_end : (is_direct : Bool) (named : State) (d : DoctypeOf)
      → follows (system_or_end rules.exact is_direct named d c text) (system_or_end_step rules.exact is_direct named d c)
  unfolding system_or_end system_or_end_step here slice_at brought rest_of
  follows-system_or_end is_direct named d = follows-if (c == greater_than) _ _ _ _ (refl, refl) (follows-wanted_identifier is_direct named System d)

  -- white space, and the text after it
  follows-space : (place : DoctypePlace) (afterwards : List ℕ → Slice) (d : DoctypeOf) (next : Here Open)
      → (rest_of rules (InDoctype place d) text ≡ with_run silent (run_of is_white_space text) (afterwards (after_run is_white_space text)))
      → follows (afterwards (c ∷ text)) next
      → follows (with_run silent (run_of is_white_space (c ∷ text)) (afterwards (after_run is_white_space (c ∷ text)))) (space_step place d c next)
  unfolding space_step
  follows-space place afterwards d next inside stops =
      follows-run is_white_space silent (λ run later. afterwards later) (InDoctype place d) next inside stops (is_white_space c) refl

  follows-between_identifiers : (d : DoctypeOf) → follows (between_identifiers rules.exact d (c ∷ text))
      (space_step BetweenIdentifiers d c (system_or_end_step rules.exact false state.BetweenDoctypePublicAndSystemIdentifiers d c))
  unfolding between_identifiers after_space_between rest_of
  follows-between_identifiers d =
      follows-space BetweenIdentifiers (after_space_between rules.exact d) d _ refl (follows-system_or_end false state.BetweenDoctypePublicAndSystemIdentifiers d)

  -- the same of a slice that c begins
  begins-skipped_from : (errors : List Told) (d : DoctypeOf) → begins (skipped_from rules.exact errors d c text) (skipped_step rules.exact errors d c)
  unfolding skipped_from skipped_step rest_of
  begins-skipped_from errors d = begins-if (c == greater_than) _ _ _ _ refl refl

  begins-wanted_identifier : (is_direct : Bool) (named : State) (kind : DoctypeIdKind) (d : DoctypeOf)
      → begins (wanted_identifier rules.exact is_direct named kind d c text) (wanted_identifier_step rules.exact is_direct named kind d c)
  unfolding wanted_identifier wanted_identifier_step rest_of
  begins-wanted_identifier is_direct named kind d =
      begins-if (c == quotation_mark) _ _ _ _ refl (begins-if (c == apostrophe) _ _ _ _ refl (begins-skipped_from _ (with_quirks d)))

  begins-system_or_end : (is_direct : Bool) (named : State) (d : DoctypeOf)
      → begins (system_or_end rules.exact is_direct named d c text) (system_or_end_step rules.exact is_direct named d c)
  unfolding system_or_end system_or_end_step rest_of
  begins-system_or_end is_direct named d = begins-if (c == greater_than) _ _ _ _ refl (begins-wanted_identifier is_direct named System d)

  begins-after_identifier : (kind : DoctypeIdKind) (d : DoctypeOf) → begins (after_identifier rules.exact kind d c text) (after_identifier_step rules.exact kind d c)
  unfolding after_identifier after_identifier_step rest_of
  begins-after_identifier Public d = begins-if (is_white_space c) _ _ _ _ refl (begins-system_or_end true (state.AfterDoctypeIdentifier Public) d)
  begins-after_identifier System d =
      begins-if (is_white_space c) _ _ _ _ refl (begins-if (c == greater_than) _ _ _ _ refl (begins-skipped_from _ d))

  follows-identifier_after_space : (kind : DoctypeIdKind) (d : DoctypeOf) → follows (identifier_after_space rules.exact kind d (c ∷ text))
      (space_step (BeforeIdentifier kind) d c (wanted_identifier_step rules.exact false (state.BeforeDoctypeIdentifier kind) kind d c))
  unfolding identifier_after_space after_keyword_and_space rest_of
  follows-identifier_after_space kind d =
      follows-space (BeforeIdentifier kind) (after_keyword_and_space rules.exact kind d) d _ refl (follows-wanted_identifier false (state.BeforeDoctypeIdentifier kind) kind d)

  follows-after_keyword : (kind : DoctypeIdKind) (d : DoctypeOf) → follows (after_keyword rules.exact kind d (c ∷ text))
      (space_step (BeforeIdentifier kind) d c (wanted_identifier_step rules.exact true (state.AfterDoctypeKeyword kind) kind d c))
  unfolding after_keyword space_step here slice_at brought rest_of
  follows-after_keyword kind d = follows-if (is_white_space c) _ _ _ _ (refl, refl) (follows-wanted_identifier true (state.AfterDoctypeKeyword kind) kind d)

  follows-keyword_or_end : (d : DoctypeOf) → follows (keyword_or_end rules.exact d (c ∷ text)) (keyword_or_end_step rules.exact d c)
  unfolding keyword_or_end keyword_or_end_step here slice_at brought rest_of
  follows-keyword_or_end d =
      follows-if (c == greater_than) _ _ _ _ (refl, refl)
      (follows-if (begins_doctype_keyword (c ∷ [])) _ _ _ _ (refl, refl) (follows-skipped_from _ (with_quirks d)))

  follows-after_doctype_name_and_space : (d : DoctypeOf) → follows (after_doctype_name_and_space rules.exact d (c ∷ text)) (space_step AfterName d c (keyword_or_end_step rules.exact d c))
  unfolding after_doctype_name_and_space rest_of
  follows-after_doctype_name_and_space d = follows-space AfterName (keyword_or_end rules.exact d) d _ refl (follows-keyword_or_end d)

  follows-after_doctype_name : (d : DoctypeOf) → follows (after_doctype_name rules.exact d (c ∷ text))
      (if c == greater_than then Tells (Doctype d ∷ []) (Between Data) else Tells [] (InDoctype AfterName d))
  unfolding after_doctype_name here slice_at brought rest_of
  follows-after_doctype_name d = follows-if (c == greater_than) _ _ _ _ (refl, refl) (refl, refl)

  follows-doctype_name : (d : DoctypeOf) → follows (doctype_name rules.exact d (c ∷ text)) (doctype_name_step rules.exact d c)
  unfolding doctype_name doctype_name_step rest_of
  follows-doctype_name d =
      follows-run in_doctype_name (null_error rules.exact state.DoctypeName) (λ run later. after_doctype_name rules.exact (with_doctype_name d run) later) (InDoctype InDoctypeName (with_doctype_name d (c ∷ []))) _
      (rw (with_doctype_name-cons d c (run_of in_doctype_name text)) refl)
      (rw (with_doctype_name-nil d) (follows-after_doctype_name d))
      (in_doctype_name c) refl

  follows-wanted_name : (errors : List Told) (d : DoctypeOf) → follows (wanted_name rules.exact errors d c text) (wanted_name_step rules.exact errors d c)
  unfolding wanted_name wanted_name_step here slice_at brought rest_of
  follows-wanted_name errors d = follows-if (c == greater_than) _ _ _ _ (refl, refl) (refl, refl)

  follows-before_doctype_name : (d : DoctypeOf) → follows (before_doctype_name rules.exact d (c ∷ text)) (space_step BeforeName d c (wanted_name_step rules.exact [] d c))
  unfolding before_doctype_name after_word_and_space rest_of
  follows-before_doctype_name d = follows-space BeforeName (after_word_and_space rules.exact d) d _ refl (follows-wanted_name [] d)

  follows-doctype_word : (d : DoctypeOf) → follows (doctype rules.exact d (c ∷ text)) (space_step BeforeName d c (wanted_name_step rules.exact (word_error rules.exact c) d c))
  unfolding doctype space_step here slice_at brought rest_of
  follows-doctype_word d = follows-if (is_white_space c) _ _ _ _ (refl, refl) (follows-wanted_name (word_error rules.exact c) d)

  -- a doctype: its slice tells at c what the machine tells there
  follows-doctype : (place : DoctypePlace) (d : DoctypeOf) → follows (rest_of rules (InDoctype place d) (c ∷ text)) (step_at rules.exact (InDoctype place d) c)
  unfolding rest_of step_at doctype_step here slice_at brought next_slice
  follows-doctype AfterWord d = follows-doctype_word d
  follows-doctype BeforeName d = follows-before_doctype_name d
  follows-doctype InDoctypeName d = follows-doctype_name d
  follows-doctype AfterName d = follows-after_doctype_name_and_space d
  follows-doctype (AfterKeyword kind) d = follows-after_keyword kind d
  follows-doctype (BeforeIdentifier kind) d = follows-identifier_after_space kind d
  follows-doctype (InIdentifier quotes kind) d = follows-identifier quotes kind d
  follows-doctype (AfterIdentifier kind) d = (begins-after_identifier kind d, refl)
  follows-doctype BetweenIdentifiers d = follows-between_identifiers d
  follows-doctype Skipped d = follows-skipped_rest d

  follows-after_solidus : follows (after_solidus rules.exact (c ∷ text)) (solidus_step rules.exact c)
  unfolding after_solidus solidus_step here slice_at brought rest_of
  follows-after_solidus =
      follows-if (is_letter c) _ _ _ _ (follows-tag_name (begun EndTag)) (follows-if (c == greater_than) _ _ _ _ (refl, refl) (follows-bogus_comment_from [] (error_in rules.exact state.EndTagOpen c ∷ [])))

  follows-after_less_than : follows (after_less_than rules.exact (c ∷ text)) (less_than_step rules.exact c)
  unfolding after_less_than less_than_step here slice_at brought rest_of next_slice
  follows-after_less_than =
      follows-if (is_letter c) _ _ _ _ (follows-tag_name (begun StartTag))
      (follows-if (c == solidus) _ _ _ _ (refl, refl)
      (follows-if (c == exclamation_mark) _ _ _ _ (refl, refl)
      (follows-if (c == question_mark) _ _ _ _ (refl, refl)
      (begins-data_text (error_in rules.exact state.TagOpen c ∷ Text (codes "<") ∷ []), refl))))

  -- raw text

  begins-raw_text : (raw : Raw) (name : List ℕ) (before : List Told) → begins (raw_text rules raw name before c text) (raw_step rules.exact raw name before c)
  unfolding raw_text raw_step rest_of
  begins-raw_text raw name before =
      begins-if (c == less_than) _ _ _ _ refl (begins-if (is_rcdata raw && (c == ampersand)) _ _ _ _ refl refl)

  follows-raw : (raw : Raw) (name : List ℕ) (before : List Told) → follows (no_character (Leaves before (Between (RawText raw name)))) (raw_step rules.exact raw name before c)
  unfolding here slice_at brought next_slice
  follows-raw raw name before = (begins-raw_text raw name before, refl)

  follows-tag_name_end : (tag : OpenTag) → follows (after_tag_name tag (c ∷ text)) (tag_name_end_step tag c)
  unfolding tag_name_end_step
  follows-tag_name_end tag = follows-after_tag_name tag

  follows-after_end_name : (kind : RawKind) (name letters : List ℕ) → follows (after_end_name kind name letters (c ∷ text))
      (if ends_raw_text name letters c then tag_name_end_step (with_name (begun EndTag) letters) c
      else raw_step rules.exact (raw_of kind) name (texts (less_than ∷ solidus ∷ letters)) c)
  unfolding after_end_name
  follows-after_end_name kind name letters =
      follows-if (ends_raw_text name letters c) _ _ _ _ (follows-tag_name_end (with_name (begun EndTag) letters)) (follows-raw (raw_of kind) name _)

  follows-end_name : (kind : RawKind) (name letters : List ℕ) → follows (end_name kind name letters (c ∷ text)) (end_name_step rules.exact kind name letters c)
  unfolding end_name end_name_step rest_of
  follows-end_name kind name letters =
      follows-run is_letter silent (λ run later. after_end_name kind name (letters ++ run) later) (InRaw (InEndName kind (letters ++ c ∷ [])) name) _
      (rw (append_assoc letters (c ∷ []) (run_of is_letter text)) refl)
      (rw (append-nil letters) (follows-after_end_name kind name letters))
      (is_letter c) refl

  follows-after_switch : (kind : ScriptEscapeKind) (name letters : List ℕ) → follows (after_switch kind name letters (c ∷ text))
      (if ends_name c then Tells (texts (c ∷ [])) (raw_text_of (raw_kind.ScriptDataEscaped (switched kind letters)) name)
      else raw_step rules.exact (raw_of (raw_kind.ScriptDataEscaped kind)) name [] c)
  unfolding after_switch here slice_at brought rest_of
  follows-after_switch kind name letters =
      follows-if (ends_name c) _ _ _ _ (refl, refl) (follows-raw (raw_of (raw_kind.ScriptDataEscaped kind)) name [])

  follows-switch : (kind : ScriptEscapeKind) (name letters : List ℕ) → follows (switch kind name letters (c ∷ text)) (switch_step rules.exact kind name letters c)
  unfolding switch switch_step rest_of
  follows-switch kind name letters =
      follows-run is_letter (λ d. texts (d ∷ [])) (λ run later. after_switch kind name (letters ++ run) later) (InRaw (InSwitch kind (letters ++ c ∷ [])) name) _
      (rw (append_assoc letters (c ∷ []) (run_of is_letter text)) refl)
      (rw (append-nil letters) (follows-after_switch kind name letters))
      (is_letter c) refl

  follows-after_mark : (name : List ℕ) → follows (after_mark name (c ∷ text)) (mark_step rules.exact name c)
  unfolding after_mark mark_step here slice_at brought rest_of
  follows-after_mark name = follows-if (c == hyphen) _ _ _ _ (refl, refl) (follows-raw ScriptData name [])

  follows-after_mark_and_dash : (name : List ℕ) → follows (after_mark_and_dash name (c ∷ text)) (mark_and_dash_step rules.exact name c)
  unfolding after_mark_and_dash mark_and_dash_step here slice_at brought rest_of
  follows-after_mark_and_dash name = follows-if (c == hyphen) _ _ _ _ (refl, refl) (follows-raw ScriptData name [])

  follows-raw_solidus : (kind : RawKind) (name : List ℕ) → follows (after_raw_solidus kind name text) (raw_solidus_step kind name)
  unfolding after_raw_solidus raw_solidus_step here slice_at brought rest_of
  follows-raw_solidus raw_kind.Rcdata name = (refl, refl)
  follows-raw_solidus raw_kind.Rawtext name = (refl, refl)
  follows-raw_solidus raw_kind.ScriptData name = (refl, refl)
  follows-raw_solidus (raw_kind.ScriptDataEscaped escape_kind.Escaped) name = (refl, refl)
  follows-raw_solidus (raw_kind.ScriptDataEscaped escape_kind.DoubleEscaped) name = (refl, refl)

  follows-after_raw_less_than : (kind : RawKind) (name : List ℕ) → follows (after_raw_less_than kind name (c ∷ text)) (raw_less_than_step rules.exact kind name c)
  unfolding after_raw_less_than raw_less_than_step here slice_at brought rest_of
  follows-after_raw_less_than kind name =
      follows-if (c == solidus) _ _ _ _ (follows-raw_solidus kind name)
      (follows-if (begins_mark kind c) _ _ _ _ (refl, refl)
      (follows-if (begins_switch kind c) _ _ _ _ (refl, refl) (follows-raw (raw_of kind) name (told_after_less_than kind))))

  follows-raw_place : (place : RawPlace) (name : List ℕ) → follows (rest_of rules (InRaw place name) (c ∷ text)) (step_at rules.exact (InRaw place name) c)
  unfolding rest_of step_at raw_place_step
  follows-raw_place (AfterLessThan kind) name = follows-after_raw_less_than kind name
  follows-raw_place (InEndName kind letters) name = follows-end_name kind name letters
  follows-raw_place AfterMark name = follows-after_mark name
  follows-raw_place AfterMarkAndDash name = follows-after_mark_and_dash name
  follows-raw_place (InSwitch kind letters) name = follows-switch kind name letters

  -- the slice that is open tells at c what the machine does, where that is not a reference
  follows-tag : (place : Place) (tag : OpenTag) → follows (rest_of rules (InTag place tag) (c ∷ text)) (step_at rules.exact (InTag place tag) c)
  unfolding rest_of step_at tag_step here slice_at brought next_slice
  follows-tag InName tag = follows-tag_name tag
  follows-tag BeforeAttribute tag = (begins-part BeforeAttribute tag, refl)
  follows-tag InAttributeName tag = follows-attribute_after_first tag
  follows-tag AfterAttributeName tag = follows-after_name_and_space tag
  follows-tag BeforeValue tag = follows-value_after_space tag
  follows-tag (InValue Unquoted) tag = follows-unquoted tag
  follows-tag (InValue SingleQuoted) tag = follows-quoted SingleQuoted tag (λ t. refl)
  follows-tag (InValue DoubleQuoted) tag = follows-quoted DoubleQuoted tag (λ t. refl)
  follows-tag AfterQuotedValue tag = (begins-part AfterQuotedValue tag, refl)
  follows-tag AfterSolidus tag = (begins-part AfterSolidus tag, refl)

  follows-between : (mode : Mode) → follows (rest_of rules (Between mode) (c ∷ text)) (step_at rules.exact (Between mode) c)
  unfolding rest_of step_at here slice_at brought next_slice
  follows-between Data = (begins-data_text [], refl)
  follows-between Plain = (refl, refl)
  follows-between (RawText raw name) = follows-raw raw name []
  follows-between Cdata = (begins-cdata_from, refl)

  -- references

  -- the slice brings at c what the machine does
  abbrev pub brings : Slice → Brought Open → Type 0
  brings slice next = brought rules foreign slice c text ≡ record { settled = next.settled; here = going rest next.here }

  brings-if : (test : Bool) (a b : Slice) (p q : Brought Open) → brings a p → brings b q → brings (if test then a else b) (if test then p else q)
  brings-if true a b p q f g = f
  brings-if false a b p q f g = g

  brings-from : (slice : Slice) (step : Here Open) → follows slice step → brings slice (record { settled = []; here = step })
  brings-from slice step f = f.1 ∙ rw f.0 refl

  -- after a reference c is read as it is where the reference stands
  here-opened_in : (stand : Stand) (characters : List ℕ)
      → here rules (rest_of rules (opened_in stand characters) (c ∷ text)) c text ≡ going rest (step_at rules.exact (opened_in stand characters) c)
  here-opened_in (InText mode) characters = (follows-between mode).0
  here-opened_in (InAttribute kind tag) characters = (follows-tag (InValue kind) (with_value tag characters)).0

  -- after the held text of a reference, the slice brings at c what the machine brings there
  brings-after_held : (stand : Stand) (held : List ℕ) → brings (after_held rules stand held (c ∷ text))
      (if ends_number held c then record {
        settled = late_tokens stand (reference rules (in_value stand) held (Some c)) held;
        here = Tells [] (opened_after stand (reference rules (in_value stand) held (Some c)) held);
      }
      else record {
        settled = late_tokens stand (reference rules (in_value stand) held (Some c)) held;
        here = step_at rules.exact (opened_after stand (reference rules (in_value stand) held (Some c)) held) c;
      })
  unfolding after_held here slice_at brought
  brings-after_held stand held =
      brings-if (ends_number held c) _ _ _ _ refl
      (ap (λ h. record { settled = late_tokens stand (reference rules (in_value stand) held (Some c)) held; here = h })
      (here-opened_in stand (characters_in (reference rules (in_value stand) held (Some c)) ++ drop (reference rules (in_value stand) held (Some c)).taken held)))

  brings-reference : (stand : Stand) (held : List ℕ) (undecided : Bool) → is_undecided rules.references (held ++ c ∷ []) ≡ undecided
      → brings (reference_text rules stand held (c ∷ text)) (reference_step rules stand held c)
  unfolding reference_text reference_step rest_of here slice_at brought
  brings-reference stand held true h =
      ap (λ (s : Slice). brought rules foreign s c text) (with_while-member (is_undecided rules.references) (after_held rules stand) held c text h) ∙ rw h refl
  brings-reference stand held false h =
      ap (λ (s : Slice). brought rules foreign s c text) (with_while-none (is_undecided rules.references) (after_held rules stand) held c text h) ∙ rw h (brings-after_held stand held)

  -- after `<!`

  -- the slice brings that by itself
  abbrev brings_unasked : Slice → Brought Open → Type 0
  brings_unasked slice next = brought_without_answer rules slice.cells slice.afterwards c text ≡ record { settled = next.settled; here = going rest next.here }

  brings_unasked-if : (test : Bool) (a b : Slice) (p q : Brought Open) → brings_unasked a p → brings_unasked b q → brings_unasked (if test then a else b) (if test then p else q)
  brings_unasked-if true a b p q f g = f
  brings_unasked-if false a b p q f g = g

  brings-declaration_by_answer : (held : List ℕ) → brings_unasked (declaration_by_answer rules.exact foreign held c text) (declaration_answer_step rules.exact foreign held c)
  unfolding declaration_by_answer declaration_answer_step here slice_at rest_of
  brings-declaration_by_answer held =
      brings_unasked-if (foreign && bytes_eq (held ++ c ∷ []) cdata_keyword) _ _ _ _ refl
      (brings_unasked-if (foreign && begins_cdata (held ++ c ∷ [])) _ _ _ _ refl
      (ap (λ h. record { settled = declaration_error rules.exact held; here = h }) (follows-bogus_comment held).0))

  brings-declaration : (held : List ℕ) → brings (declaration rules.exact held (c ∷ text)) (declaration_step rules.exact foreign held c)
  unfolding declaration declaration_step here slice_at brought rest_of
  brings-declaration held =
      brings-if (bytes_eq (held ++ c ∷ []) (codes "--")) _ _ _ _ refl
      (brings-if (bytes_eq (lower_case (held ++ c ∷ [])) (codes "doctype")) _ _ _ _ refl
      (brings-if (begins_keyword (held ++ c ∷ [])) _ _ _ _ refl (brings-declaration_by_answer held)))

  brings-doctype_keyword : (held : List ℕ) (d : DoctypeOf) → brings (doctype_keyword rules.exact held d (c ∷ text)) (doctype_keyword_step rules.exact held d c)
  unfolding doctype_keyword doctype_keyword_step here slice_at brought rest_of
  brings-doctype_keyword held d =
      brings-if (is_keyword Public (held ++ c ∷ [])) _ _ _ _ refl
      (brings-if (is_keyword System (held ++ c ∷ [])) _ _ _ _ refl
      (brings-if (begins_doctype_keyword (held ++ c ∷ [])) _ _ _ _ refl
      (ap (λ h. record { settled = keyword_error rules.exact held; here = h }) (follows-skipped_rest (with_quirks d)).0)))

  -- whatever is open, the rest of its slice brings at c what the machine brings there
  pub rest_of-brought_at : (opened : Open) → brings (rest_of rules opened (c ∷ text)) (brought_at rules foreign opened c)
  unfolding rest_of brought_at step_at here slice_at brought next_slice
  rest_of-brought_at (Between mode) = brings-from (rest_of rules (Between mode) (c ∷ text)) _ (follows-between mode)
  rest_of-brought_at LessThan = brings-from (rest_of rules LessThan (c ∷ text)) _ follows-after_less_than
  rest_of-brought_at LessThanSolidus = brings-from (rest_of rules LessThanSolidus (c ∷ text)) _ follows-after_solidus
  rest_of-brought_at (InTag place tag) = brings-from (rest_of rules (InTag place tag) (c ∷ text)) _ (follows-tag place tag)
  rest_of-brought_at (InRaw place name) = brings-from (rest_of rules (InRaw place name) (c ∷ text)) _ (follows-raw_place place name)
  rest_of-brought_at (InDeclaration held) = brings-declaration held
  rest_of-brought_at (InComment before) = brings-from (rest_of rules (InComment before) (c ∷ text)) _ (follows-comment before)
  rest_of-brought_at (InBogusComment before) = brings-from (rest_of rules (InBogusComment before) (c ∷ text)) _ (follows-bogus_comment before)
  rest_of-brought_at (InInstruction before) = brings-from (rest_of rules (InInstruction before) (c ∷ text)) _ (follows-instruction before)
  rest_of-brought_at (InDoctype place d) = brings-from (rest_of rules (InDoctype place d) (c ∷ text)) _ (follows-doctype place d)
  rest_of-brought_at (InDoctypeKeyword held d) = brings-doctype_keyword held d
  rest_of-brought_at (InCdata held) = brings-from (rest_of rules (InCdata held) (c ∷ text)) _ (follows-cdata held)
  rest_of-brought_at (InReference stand held) = brings-reference stand held (is_undecided rules.references (held ++ c ∷ [])) refl
