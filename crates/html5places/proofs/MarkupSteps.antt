-- What a step of the machine tells of markup: nothing but the token that it ends.
use Rattle.std.proofs.Common.{◌≡◌, ◌⊎◌, inl, inr, ℕ, Bool, true, false, List, [], ◌∷◌, ◌++◌, refl, ap, sym, ◌∙◌}
use Rattle.std.specs.Prelude.{◌&&◌, ◌||◌, ◌==◌, codes, encode_utf8, if◌then◌else◌}
use Rattle.std.proofs.lemmas.Bool.{false≢true, eqb-true}
use Rattle.std.proofs.lemmas.List.{append_assoc}
use Rattle.html5ever_interface.specs.Token.{Told, DoctypeOf}
use Rattle.html5ever_interface.specs.Token.Told.{Text, Null, Comment, Doctype, Instruction}
use Rattle.html5ever_interface.specs.declared.states.State.{State}
use Rattle.html5ever_interface.specs.declared.states.State.TheVariants as state
use Rattle.html5ever_interface.specs.declared.states.DoctypeIdKind.{DoctypeIdKind}
use Rattle.html5ever_interface.specs.declared.states.DoctypeIdKind.TheVariants.{Public, System}
use Rattle.html5ever_interface.specs.declared.states.RawKind.{RawKind}
use Rattle.html5ever_interface.specs.declared.states.RawKind.TheVariants as raw_kind
use Rattle.html5ever_interface.specs.declared.states.ScriptEscapeKind.TheVariants as escape_kind
use Rattle.html5ever_interface.specs.declared.states.AttrValueKind.{AttrValueKind}
use Rattle.html5ever_interface.specs.declared.states.AttrValueKind.TheVariants.{Unquoted, SingleQuoted, DoubleQuoted}
use Rattle.html5reading.specs.Cdata.{ends_cdata, told_at_end_of_cdata}
use Rattle.html5reading.specs.Characters.{null, replacement_character, exclamation_mark, quotation_mark, ampersand, apostrophe, hyphen, solidus, less_than, equals_sign, greater_than, question_mark, is_letter, is_white_space, lower_case}
use Rattle.html5reading.specs.ErrorText.{error_in}
use Rattle.html5reading.specs.Reading.{Here, Brought}
use Rattle.html5reading.specs.Reading.Here.{Tells, TellsTag}
use Rattle.html5reading.specs.Start.{Raw, Mode, OpenTag, Place, DoctypePlace, Open, Rules, raw_of, is_undecided_open, begun}
use Rattle.html5reading.specs.Start.Raw.{ScriptData}
use Rattle.html5reading.specs.Start.Mode.{Data, Plain, RawText, Cdata}
use Rattle.html5reading.specs.Start.RawPlace.{AfterLessThan, InEndName, AfterMark, AfterMarkAndDash, InSwitch}
use Rattle.html5reading.specs.Start.Place.{InName, BeforeAttribute, InAttributeName, AfterAttributeName, BeforeValue, InValue, AfterQuotedValue, AfterSolidus}
use Rattle.html5reading.specs.Start.DoctypePlace.{AfterWord, BeforeName, InDoctypeName, AfterName, AfterKeyword, BeforeIdentifier, InIdentifier, AfterIdentifier, BetweenIdentifiers, Skipped}
use Rattle.html5reading.specs.Start.Open.{Between, LessThan, LessThanSolidus, InTag, InRaw, InDeclaration, InComment, InBogusComment, InInstruction, InDoctype, InDoctypeKeyword, InReference, InCdata}
use Rattle.html5reading.specs.Start.Stand.{InText, InAttribute}
use Rattle.std.specs.Str.{bytes_eq}
use Rattle.html5reading.specs.Reference.{is_undecided, ends_number}
use Rattle.html5reading.specs.Comment.{begins_keyword, ends_comment, comment_content, comment_end_error, comment_errors, mark_error, without_last}
use Rattle.html5reading.specs.Doctype.{with_quirks, in_identifier, is_keyword, begins_doctype_keyword, in_doctype_name, word_error}
use Rattle.html5reading.specs.RawText.{texts, ends_name, raw_state, kind_of, is_rcdata, raw_character, ends_raw_text, begins_mark, begins_switch}
use Rattle.html5reading.specs.Text.{plain_text}
use Rattle.html5reading.specs.Tag.{in_unquoted, in_quoted, in_tag_name, in_attribute_name, place_error, first_error, unquoted_error, with_last_attribute}
use Rattle.html5reading.specs.Machine.{closing_step, tag_name_step, part_step, attribute_name_step, after_attribute_name_step, quoted_step, unquoted_step, before_value_step, tag_step, data_step, less_than_step, solidus_step, bogus_comment_step, comment_step, instruction_step, skipped_step, wanted_name_step, doctype_name_step, keyword_or_end_step, wanted_identifier_step, system_or_end_step, identifier_step, after_identifier_step, space_step, doctype_step, raw_step, tag_name_end_step, end_name_step, switch_step, mark_step, mark_and_dash_step, raw_solidus_step, raw_less_than_step, raw_place_step, step_at, cdata_step, declaration_step, declaration_answer_step, doctype_keyword_step, reference_step, brought_at}
use Rattle.html5ever_interface.specs.declared.interface.token.TagKind.TheVariants.{StartTag}
use Rattle.html5reading.proofs.Letters.{letter-in_tag_name}
use Rattle.html5feed.specs.Beginning.{is_after_less_than}
use Rattle.html5places.specs.Markup.{ends_run, in_markup, mode_at_less_than}
use Rattle.html5places.specs.Marks.{is_markup}
use Rattle.html5places.proofs.KeepsRun.{KeepsRun, keeps-none, keeps-one, keeps-two, keeps-append, keeps-where, keeps-texts, keeps-told_after, keeps-less_than, keeps-duplicate, keeps-end_tag}

-- what is open after a `<` that is read in this mode
abbrev pub after_less_than_in : Mode → Open
after_less_than_in (RawText raw name) = InRaw (AfterLessThan (kind_of raw)) name
after_less_than_in Data = LessThan
after_less_than_in Plain = Between Plain
after_less_than_in Cdata = InCdata (less_than ∷ [])

-- whether a `<` was read that may begin markup
abbrev pub is_inside : Open → Bool
is_inside opened = is_after_less_than opened || in_markup opened

-- what one of two tests says of both
either-first : (a b : Bool) → a ≡ true → (a || b) ≡ true
either-first a b h = ap (λ x. x || b) h

either-second : (a b : Bool) → b ≡ true → (a || b) ≡ true
either-second true b h = refl
either-second false b h = h

neither-first : (a b : Bool) → (a || b) ≡ false → a ≡ false
neither-first true b h = h
neither-first false b h = refl

pub begun-inside : (opened : Open) → is_after_less_than opened ≡ true → is_inside opened ≡ true
begun-inside opened h = either-first (is_after_less_than opened) (in_markup opened) h

pub within-inside : (opened : Open) → in_markup opened ≡ true → is_inside opened ≡ true
within-inside opened h = either-second (is_after_less_than opened) (in_markup opened) h

pub outside-not_begun : (opened : Open) → is_inside opened ≡ false → is_after_less_than opened ≡ false
outside-not_begun opened h = neither-first (is_after_less_than opened) (in_markup opened) h

pub inside-within : (opened : Open) → is_after_less_than opened ≡ false → is_inside opened ≡ true → in_markup opened ≡ true
inside-within opened no_begin h = ap (λ b. b || in_markup opened) (sym no_begin) ∙ h

-- No run ends. Markup is open where some was open before, or where `<` may begin some.
pub record GoesOn (inside : Bool) (mode : Mode) (c : ℕ) (told : List Told) (later : Open) : Type 0 where
  pub keeps : KeepsRun told
  pub within : in_markup later ≡ true → inside ≡ true
  pub begins : is_after_less_than later ≡ true → (c ≡ less_than) × (later ≡ after_less_than_in mode)

-- The last token may end a run, and no markup is open then. If it is markup, that was open.
pub record EndsRun (within : Bool) (told : List Told) (later : Open) : Type 0 where
  pub errors : List Told
  pub token : Told
  pub parts : told ≡ errors ++ token ∷ []
  pub keeps : KeepsRun errors
  pub outside : is_inside later ≡ false
  pub markup : is_markup token ≡ true → (within ≡ true) × (later ≡ Between Data)

-- either of them, where `inside` says whether a `<` was read that may begin markup, and `within` whether that and more was read
unfoldable pub Steps : Bool → Bool → Mode → ℕ → Here Open → Type 0
Steps inside within mode c (Tells told later) = GoesOn inside mode c told later ⊎ EndsRun within told later
Steps inside within mode c (TellsTag told tag) = (within ≡ true) × KeepsRun told

-- within markup
steps-within : (within : Bool) (mode : Mode) (c : ℕ) (told : List Told) (later : Open) → KeepsRun told → is_after_less_than later ≡ false → Steps true within mode c (Tells told later)
unfolding Steps
steps-within within mode c told later keeps no_begin =
    inl (record { keeps = keeps; within = λ h. refl; begins = λ h. absurd (false≢true (sym no_begin ∙ h)) })

-- in text
steps-text : (inside within : Bool) (mode : Mode) (c : ℕ) (told : List Told) (later : Open) → KeepsRun told → in_markup later ≡ false → is_after_less_than later ≡ false
    → Steps inside within mode c (Tells told later)
unfolding Steps
steps-text inside within mode c told later keeps no_markup no_begin =
    inl (record { keeps = keeps; within = λ h. absurd (false≢true (sym no_markup ∙ h)); begins = λ h. absurd (false≢true (sym no_begin ∙ h)) })

steps-null : (inside within : Bool) (mode : Mode) (c : ℕ) (errors : List Told) (later : Open) → KeepsRun errors → is_inside later ≡ false
    → Steps inside within mode c (Tells (errors ++ Null ∷ []) later)
unfolding Steps
steps-null inside within mode c errors later keeps outside =
    inr (record { errors = errors; token = Null; parts = refl; keeps = keeps; outside = outside; markup = λ h. absurd (false≢true h) })

-- after one more error
steps-null_more : (inside within : Bool) (mode : Mode) (c : ℕ) (errors : List Told) (error : Told) (later : Open) → KeepsRun errors → ends_run error ≡ false → is_inside later ≡ false
    → Steps inside within mode c (Tells (errors ++ error ∷ Null ∷ []) later)
unfolding Steps
steps-null_more inside within mode c errors error later keeps one outside =
    inr (record {
      errors = errors ++ error ∷ [];
      token = Null;
      parts = sym (append_assoc errors (error ∷ []) (Null ∷ []));
      keeps = keeps-append errors (error ∷ []) keeps (keeps-one error one);
      outside = outside;
      markup = λ h. absurd (false≢true h);
    })

steps-begins : (inside within : Bool) (mode : Mode) (c : ℕ) (told : List Told) (later : Open) → KeepsRun told → in_markup later ≡ false → c ≡ less_than → later ≡ after_less_than_in mode
    → Steps inside within mode c (Tells told later)
unfolding Steps
steps-begins inside within mode c told later keeps no_markup is same =
    inl (record { keeps = keeps; within = λ h. absurd (false≢true (sym no_markup ∙ h)); begins = λ h. (is, same) })

-- at the end of markup
steps-end : (mode : Mode) (c : ℕ) (errors : List Told) (token : Told) → KeepsRun errors → Steps true true mode c (Tells (errors ++ token ∷ []) (Between Data))
unfolding Steps
steps-end mode c errors token keeps = inr (record { errors = errors; token = token; parts = refl; keeps = keeps; outside = refl; markup = λ h. (refl, refl) })

steps-end_more : (mode : Mode) (c : ℕ) (errors : List Told) (error token : Told) → KeepsRun errors → ends_run error ≡ false
    → Steps true true mode c (Tells (errors ++ error ∷ token ∷ []) (Between Data))
unfolding Steps
steps-end_more mode c errors error token keeps one =
    inr (record {
      errors = errors ++ error ∷ [];
      token = token;
      parts = sym (append_assoc errors (error ∷ []) (token ∷ []));
      keeps = keeps-append errors (error ∷ []) keeps (keeps-one error one);
      outside = refl;
      markup = λ h. (refl, refl);
    })

steps-if : (inside within : Bool) (mode : Mode) (c : ℕ) (test : Bool) (p q : Here Open) → Steps inside within mode c p → Steps inside within mode c q → Steps inside within mode c (if test then p else q)
steps-if inside within mode c true p q f g = f
steps-if inside within mode c false p q f g = g

steps-if_true : (inside within : Bool) (mode : Mode) (c : ℕ) (test : Bool) (p q : Here Open) → (test ≡ true → Steps inside within mode c p) → Steps inside within mode c q → Steps inside within mode c (if test then p else q)
steps-if_true inside within mode c true p q f g = f refl
steps-if_true inside within mode c false p q f g = g

-- also what stands in the mode is text when no markup is open
module _ (exact : Bool) (mode : Mode) (c : ℕ) where
  keeps-place : (place : Place) → KeepsRun (place_error exact place c)
  unfolding place_error
  keeps-place InName = keeps-none
  keeps-place BeforeAttribute = keeps-none
  keeps-place InAttributeName = keeps-none
  keeps-place AfterAttributeName = keeps-none
  keeps-place BeforeValue = keeps-none
  keeps-place (InValue kind) = keeps-none
  keeps-place AfterQuotedValue = keeps-where _ _ refl
  keeps-place AfterSolidus = keeps-where _ _ refl

  keeps-first : (place : Place) → KeepsRun (first_error exact place c)
  unfolding first_error
  keeps-first AfterAttributeName = keeps-where _ _ refl
  keeps-first other = keeps-where _ _ refl

  steps-closing : (errors : List Told) (tag : OpenTag) (self_closing : Bool) → KeepsRun errors → Steps true true mode c (closing_step errors tag self_closing)
  unfolding closing_step Steps
  steps-closing errors tag self_closing f =
      (refl, keeps-append errors _ f (keeps-append _ _ (keeps-duplicate tag) (keeps-end_tag (with_last_attribute tag) self_closing)))

  -- within a tag
  steps-tag_name : (tag : OpenTag) → Steps true true mode c (tag_name_step exact tag c)
  unfolding tag_name_step
  steps-tag_name tag =
      steps-if true true mode c (in_tag_name c) _ _ (steps-within true mode c _ _ (keeps-where _ _ refl) refl)
      (steps-if true true mode c (is_white_space c) _ _ (steps-within true mode c _ _ keeps-none refl)
      (steps-if true true mode c (c == solidus) _ _ (steps-within true mode c _ _ keeps-none refl) (steps-closing [] tag false keeps-none)))

  steps-part : (place : Place) (tag : OpenTag) → Steps true true mode c (part_step exact place tag c)
  unfolding part_step
  steps-part place tag =
      steps-if true true mode c (c == greater_than) _ _ (steps-closing _ tag _ (keeps-place place))
      (steps-if true true mode c (is_white_space c) _ _ (steps-within true mode c _ _ (keeps-place place) refl)
      (steps-if true true mode c (c == solidus) _ _ (steps-within true mode c _ _ (keeps-place place) refl)
      (steps-within true mode c _ _ (keeps-append _ _ (keeps-place place) (keeps-append _ _ (keeps-first place) (keeps-duplicate tag))) refl)))

  steps-attribute_name : (tag : OpenTag) → Steps true true mode c (attribute_name_step exact tag c)
  unfolding attribute_name_step
  steps-attribute_name tag =
      steps-if true true mode c (in_attribute_name c) _ _ (steps-within true mode c _ _ (keeps-where _ _ refl) refl)
      (steps-if true true mode c (is_white_space c) _ _ (steps-within true mode c _ _ keeps-none refl)
      (steps-if true true mode c (c == solidus) _ _ (steps-within true mode c _ _ keeps-none refl)
      (steps-if true true mode c (c == equals_sign) _ _ (steps-within true mode c _ _ keeps-none refl) (steps-closing [] tag false keeps-none))))

  steps-unquoted : (tag : OpenTag) → Steps true true mode c (unquoted_step exact tag c)
  unfolding unquoted_step unquoted_error
  steps-unquoted tag =
      steps-if true true mode c (in_unquoted c) _ _ (steps-within true mode c _ _ (keeps-where _ _ refl) refl)
      (steps-if true true mode c (c == ampersand) _ _ (steps-within true mode c _ _ keeps-none refl)
      (steps-if true true mode c (c == greater_than) _ _ (steps-closing [] tag false keeps-none) (steps-within true mode c _ _ keeps-none refl)))

  steps-quoted : (kind : AttrValueKind) (tag : OpenTag) → Steps true true mode c (quoted_step exact kind tag c)
  unfolding quoted_step
  steps-quoted kind tag =
      steps-if true true mode c (in_quoted kind c) _ _ (steps-within true mode c _ _ (keeps-where _ _ refl) refl)
      (steps-if true true mode c (c == ampersand) _ _ (steps-within true mode c _ _ keeps-none refl) (steps-within true mode c _ _ keeps-none refl))

  steps-tag : (place : Place) (tag : OpenTag) → Steps true true mode c (tag_step exact place tag c)
  unfolding tag_step before_value_step after_attribute_name_step
  steps-tag InName tag = steps-tag_name tag
  steps-tag BeforeAttribute tag = steps-part BeforeAttribute tag
  steps-tag InAttributeName tag = steps-attribute_name tag
  steps-tag AfterAttributeName tag =
      steps-if true true mode c (is_white_space c) _ _ (steps-within true mode c _ _ keeps-none refl)
      (steps-if true true mode c (c == equals_sign) _ _ (steps-within true mode c _ _ keeps-none refl) (steps-part AfterAttributeName tag))
  steps-tag BeforeValue tag =
      steps-if true true mode c (is_white_space c) _ _ (steps-within true mode c _ _ keeps-none refl)
      (steps-if true true mode c (c == quotation_mark) _ _ (steps-within true mode c _ _ keeps-none refl)
      (steps-if true true mode c (c == apostrophe) _ _ (steps-within true mode c _ _ keeps-none refl)
      (steps-if true true mode c (c == greater_than) _ _ (steps-closing _ tag false (keeps-one _ refl)) (steps-unquoted tag))))
  steps-tag (InValue Unquoted) tag = steps-unquoted tag
  steps-tag (InValue SingleQuoted) tag = steps-quoted SingleQuoted tag
  steps-tag (InValue DoubleQuoted) tag = steps-quoted DoubleQuoted tag
  steps-tag AfterQuotedValue tag = steps-part AfterQuotedValue tag
  steps-tag AfterSolidus tag = steps-part AfterSolidus tag

  steps-tag_name_end : (tag : OpenTag) → Steps true true mode c (tag_name_end_step tag c)
  unfolding tag_name_end_step
  steps-tag_name_end tag =
      steps-if true true mode c (is_white_space c) _ _ (steps-within true mode c _ _ keeps-none refl)
      (steps-if true true mode c (c == solidus) _ _ (steps-within true mode c _ _ keeps-none refl) (steps-closing [] tag false keeps-none))

  -- in text
  steps-data : (inside within : Bool) (before : List Told) → KeepsRun before → mode ≡ Data → Steps inside within mode c (data_step exact before c)
  unfolding data_step
  steps-data inside within before f data_mode =
      steps-if_true inside within mode c (c == less_than) _ _ (λ e. steps-begins inside within mode c before LessThan f refl (eqb-true c less_than e) (sym (ap after_less_than_in data_mode)))
      (steps-if inside within mode c (c == ampersand) _ _ (steps-text inside within mode c before (InReference (InText Data) []) f refl refl)
      (steps-if inside within mode c (c == null) _ _ (steps-null_more inside within mode c before _ _ f refl refl)
      (steps-text inside within mode c _ _ (keeps-append before _ f (keeps-one _ refl)) refl refl)))

  keeps-plain_text : KeepsRun (plain_text exact c)
  unfolding plain_text KeepsRun
  keeps-plain_text = elim (c == null) as (λ b. KeepsRun (if b then error_in exact state.Plaintext c ∷ Text (encode_utf8 replacement_character) ∷ [] else Text (encode_utf8 c) ∷ [])) [
    | true ↦ (refl, (refl, tt))
    | false ↦ (refl, tt)
  ]

  keeps-raw_character : (raw : Raw) → KeepsRun (raw_character exact raw c)
  unfolding raw_character KeepsRun
  keeps-raw_character raw = elim (c == null) as (λ b. KeepsRun (if b then error_in exact (raw_state raw) c ∷ Text (encode_utf8 replacement_character) ∷ [] else Text (encode_utf8 c) ∷ [])) [
    | true ↦ (refl, (refl, tt))
    | false ↦ (refl, tt)
  ]

  steps-raw : (inside within : Bool) (raw : Raw) (name : List ℕ) (before : List Told) → KeepsRun before → mode ≡ RawText raw name → Steps inside within mode c (raw_step exact raw name before c)
  unfolding raw_step
  steps-raw inside within raw name before f raw_mode =
      steps-if_true inside within mode c (c == less_than) _ _
      (λ e. steps-begins inside within mode c _ _ (keeps-append before _ f (keeps-less_than (kind_of raw))) refl (eqb-true c less_than e) (sym (ap after_less_than_in raw_mode)))
      (steps-if inside within mode c (is_rcdata raw && (c == ampersand)) _ _ (steps-text inside within mode c before (InReference (InText (RawText raw name)) []) f refl refl)
      (steps-text inside within mode c _ _ (keeps-append before _ f (keeps-raw_character raw)) refl refl))

  steps-cdata : (inside within : Bool) (held : List ℕ) → Steps inside within mode c (cdata_step held c)
  unfolding cdata_step
  steps-cdata inside within held =
      steps-if inside within mode c ((c == greater_than) && ends_cdata held) _ _ (steps-text inside within mode c (told_at_end_of_cdata held) (Between Data) (keeps-texts (without_last 2 held)) refl refl)
      (steps-if inside within mode c (c == null) _ _ (steps-null inside within mode c (texts held) _ (keeps-texts held) refl)
      (steps-text inside within mode c _ _ keeps-none refl refl))

  -- within comments and instructions
  steps-bogus_comment : (before : List ℕ) (first : List Told) → KeepsRun first → Steps true true mode c (bogus_comment_step exact before first c)
  unfolding bogus_comment_step
  steps-bogus_comment before first f =
      steps-if true true mode c (c == greater_than) _ _ (steps-end mode c first (Comment before) f)
      (steps-within true mode c _ _ (keeps-append first _ f (keeps-where _ _ refl)) refl)

  steps-comment : (before : List ℕ) → Steps true true mode c (comment_step exact before c)
  unfolding comment_step comment_end_error comment_errors mark_error
  steps-comment before =
      steps-if true true mode c ((c == greater_than) && ends_comment before) _ _ (steps-end mode c _ (Comment (comment_content before)) (keeps-where _ _ refl))
      (steps-within true mode c _ _ (keeps-append (mark_error exact before c) _ (keeps-where _ _ refl) (keeps-where _ _ refl)) refl)

  steps-instruction : (before : List ℕ) → Steps true true mode c (instruction_step exact before c)
  unfolding instruction_step
  steps-instruction before =
      steps-if true true mode c (c == greater_than) _ _ (steps-end mode c [] (Instruction before) keeps-none) (steps-within true mode c _ _ (keeps-where _ _ refl) refl)

  -- within doctypes
  steps-skipped : (errors : List Told) (d : DoctypeOf) → KeepsRun errors → Steps true true mode c (skipped_step exact errors d c)
  unfolding skipped_step
  steps-skipped errors d f =
      steps-if true true mode c (c == greater_than) _ _ (steps-end mode c errors (Doctype d) f) (steps-within true mode c _ _ (keeps-append errors _ f (keeps-where _ _ refl)) refl)

  steps-wanted_name : (errors : List Told) (d : DoctypeOf) → KeepsRun errors → Steps true true mode c (wanted_name_step exact errors d c)
  unfolding wanted_name_step
  steps-wanted_name errors d f =
      steps-if true true mode c (c == greater_than) _ _ (steps-end_more mode c errors _ _ f refl) (steps-within true mode c _ _ (keeps-append errors _ f (keeps-where _ _ refl)) refl)

  steps-wanted_identifier : (is_direct : Bool) (named : State) (kind : DoctypeIdKind) (d : DoctypeOf) → Steps true true mode c (wanted_identifier_step exact is_direct named kind d c)
  unfolding wanted_identifier_step
  steps-wanted_identifier is_direct named kind d =
      steps-if true true mode c (c == quotation_mark) _ _ (steps-within true mode c _ _ (keeps-where is_direct (error_in exact named c) refl) refl)
      (steps-if true true mode c (c == apostrophe) _ _ (steps-within true mode c _ _ (keeps-where is_direct (error_in exact named c) refl) refl)
      (steps-skipped (error_in exact named c ∷ []) (with_quirks d) (keeps-one _ refl)))

  steps-system_or_end : (is_direct : Bool) (named : State) (d : DoctypeOf) → Steps true true mode c (system_or_end_step exact is_direct named d c)
  unfolding system_or_end_step
  steps-system_or_end is_direct named d =
      steps-if true true mode c (c == greater_than) _ _ (steps-end mode c [] (Doctype d) keeps-none) (steps-wanted_identifier is_direct named System d)

  steps-after_identifier : (kind : DoctypeIdKind) (d : DoctypeOf) → Steps true true mode c (after_identifier_step exact kind d c)
  unfolding after_identifier_step
  steps-after_identifier Public d =
      steps-if true true mode c (is_white_space c) _ _ (steps-within true mode c _ _ keeps-none refl) (steps-system_or_end true (state.AfterDoctypeIdentifier Public) d)
  steps-after_identifier System d =
      steps-if true true mode c (is_white_space c) _ _ (steps-within true mode c _ _ keeps-none refl)
      (steps-if true true mode c (c == greater_than) _ _ (steps-end mode c [] (Doctype d) keeps-none) (steps-skipped _ d (keeps-one _ refl)))

  steps-space : (place : DoctypePlace) (d : DoctypeOf) (next : Here Open) → Steps true true mode c next → Steps true true mode c (space_step place d c next)
  unfolding space_step
  steps-space place d next f = steps-if true true mode c (is_white_space c) (Tells [] (InDoctype place d)) next (steps-within true mode c _ _ keeps-none refl) f

  steps-doctype : (place : DoctypePlace) (d : DoctypeOf) → Steps true true mode c (doctype_step exact place d c)
  unfolding doctype_step doctype_name_step keyword_or_end_step identifier_step
  steps-doctype AfterWord d = steps-space _ d _ (steps-wanted_name (word_error exact c) d (keeps-where _ _ refl))
  steps-doctype BeforeName d = steps-space _ d _ (steps-wanted_name [] d keeps-none)
  steps-doctype InDoctypeName d =
      steps-if true true mode c (in_doctype_name c) _ _ (steps-within true mode c _ _ (keeps-where _ _ refl) refl)
      (steps-if true true mode c (c == greater_than) _ _ (steps-end mode c [] (Doctype d) keeps-none) (steps-within true mode c _ _ keeps-none refl))
  steps-doctype AfterName d =
      steps-space _ d _ (steps-if true true mode c (c == greater_than) _ _ (steps-end mode c [] (Doctype d) keeps-none)
      (steps-if true true mode c (begins_doctype_keyword (c ∷ [])) _ _ (steps-within true mode c _ _ keeps-none refl) (steps-skipped _ _ (keeps-one _ refl))))
  steps-doctype (AfterKeyword kind) d = steps-space _ d _ (steps-wanted_identifier true (state.AfterDoctypeKeyword kind) kind d)
  steps-doctype (BeforeIdentifier kind) d = steps-space _ d _ (steps-wanted_identifier false (state.BeforeDoctypeIdentifier kind) kind d)
  steps-doctype (InIdentifier quotes kind) d =
      steps-if true true mode c (in_identifier quotes c) _ _ (steps-within true mode c _ _ (keeps-where _ _ refl) refl)
      (steps-if true true mode c (c == greater_than) _ _ (steps-end_more mode c [] _ _ keeps-none refl) (steps-within true mode c _ _ keeps-none refl))
  steps-doctype (AfterIdentifier kind) d = steps-after_identifier kind d
  steps-doctype BetweenIdentifiers d = steps-space _ d _ (steps-system_or_end false state.BetweenDoctypePublicAndSystemIdentifiers d)
  steps-doctype Skipped d = steps-skipped [] d keeps-none

  -- in raw text
  steps-raw_solidus : (kind : RawKind) (name : List ℕ) → Steps true false mode c (raw_solidus_step kind name)
  unfolding raw_solidus_step
  steps-raw_solidus raw_kind.Rcdata name = steps-within false mode c _ _ keeps-none refl
  steps-raw_solidus raw_kind.Rawtext name = steps-within false mode c _ _ keeps-none refl
  steps-raw_solidus raw_kind.ScriptData name = steps-within false mode c _ _ keeps-none refl
  steps-raw_solidus (raw_kind.ScriptDataEscaped escape_kind.Escaped) name = steps-within false mode c _ _ keeps-none refl
  steps-raw_solidus (raw_kind.ScriptDataEscaped escape_kind.DoubleEscaped) name = steps-within false mode c _ _ (keeps-one _ refl) refl

  steps-after_less_than : (kind : RawKind) (name : List ℕ) → mode ≡ RawText (raw_of kind) name → Steps true false mode c (raw_less_than_step exact kind name c)
  unfolding raw_less_than_step begins_mark begins_switch
  steps-after_less_than kind name raw_mode =
      steps-if true false mode c (c == solidus) _ _ (steps-raw_solidus kind name)
      (steps-if true false mode c (begins_mark kind c) _ _ (steps-within false mode c _ _ (keeps-two _ _ refl refl) refl)
      (steps-if true false mode c (begins_switch kind c) _ _ (steps-within false mode c _ _ (keeps-two _ _ refl refl) refl)
      (steps-raw true false (raw_of kind) name _ (keeps-told_after kind) raw_mode)))

  steps-end_name : (kind : RawKind) (letters name : List ℕ) → mode ≡ RawText (raw_of kind) name → Steps true true mode c (end_name_step exact kind name letters c)
  unfolding end_name_step
  steps-end_name kind letters name raw_mode =
      steps-if true true mode c (is_letter c) _ _ (steps-within true mode c _ _ keeps-none refl)
      (steps-if true true mode c (ends_raw_text name letters c) _ _ (steps-tag_name_end _) (steps-raw true true (raw_of kind) name _ (keeps-texts (less_than ∷ solidus ∷ letters)) raw_mode))

-- each step when nothing is undecided
module _ (exact : Bool) (c : ℕ) where
  -- a letter after `<` begins the name of a tag
  steps-letter : is_letter c ≡ true → Steps true false Data c (tag_name_step exact (begun StartTag) c)
  unfolding tag_name_step
  steps-letter h = rw (letter-in_tag_name c h) (steps-within false Data c _ _ (keeps-where _ _ refl) refl)

  pub steps-at : (opened : Open) → is_undecided_open opened ≡ false → Steps (is_inside opened) (in_markup opened) (mode_at_less_than opened) c (step_at exact opened c)
  unfolding step_at less_than_step solidus_step raw_place_step switch_step mark_step mark_and_dash_step
  steps-at (Between Data) decided = steps-data exact Data c false false [] keeps-none refl
  steps-at (Between Plain) decided = steps-text false false Plain c _ _ (keeps-plain_text exact Plain c) refl refl
  steps-at (Between Cdata) decided = steps-cdata exact Cdata c false false []
  steps-at (Between (RawText raw name)) decided = steps-raw exact (RawText raw name) c false false raw name [] keeps-none refl
  steps-at LessThan decided =
      steps-if_true true false Data c (is_letter c) _ _ steps-letter
      (steps-if true false Data c (c == solidus) _ _ (steps-within false Data c _ _ keeps-none refl)
      (steps-if true false Data c (c == exclamation_mark) _ _ (steps-within false Data c _ _ keeps-none refl)
      (steps-if true false Data c (c == question_mark) _ _ (steps-within false Data c _ _ keeps-none refl)
      (steps-data exact Data c true false _ (keeps-two _ _ refl refl) refl))))
  steps-at LessThanSolidus decided =
      steps-if true true Data c (is_letter c) _ _ (steps-tag_name exact Data c _)
      (steps-if true true Data c (c == greater_than) _ _ (steps-within true Data c _ _ (keeps-one _ refl) refl) (steps-bogus_comment exact Data c [] _ (keeps-one _ refl)))
  steps-at (InTag place tag) decided = steps-tag exact Data c place tag
  steps-at (InRaw (AfterLessThan kind) name) decided = steps-after_less_than exact (RawText (raw_of kind) name) c kind name refl
  steps-at (InRaw (InEndName kind letters) name) decided = steps-end_name exact (RawText (raw_of kind) name) c kind letters name refl
  steps-at (InRaw AfterMark name) decided =
      steps-if false false (RawText ScriptData name) c (c == hyphen) _ _ (steps-text false false (RawText ScriptData name) c _ _ (keeps-one _ refl) refl refl)
      (steps-raw exact (RawText ScriptData name) c false false ScriptData name [] keeps-none refl)
  steps-at (InRaw AfterMarkAndDash name) decided =
      steps-if false false (RawText ScriptData name) c (c == hyphen) _ _ (steps-text false false (RawText ScriptData name) c _ _ (keeps-one _ refl) refl refl)
      (steps-raw exact (RawText ScriptData name) c false false ScriptData name [] keeps-none refl)
  steps-at (InRaw (InSwitch kind letters) name) decided =
      let raw : Raw = raw_of (raw_kind.ScriptDataEscaped kind) in
      steps-if false false (RawText raw name) c (is_letter c) _ _ (steps-text false false (RawText raw name) c _ _ (keeps-one _ refl) refl refl)
      (steps-if false false (RawText raw name) c (ends_name c) _ _ (steps-text false false (RawText raw name) c _ _ (keeps-one _ refl) refl refl)
      (steps-raw exact (RawText raw name) c false false raw name [] keeps-none refl))
  steps-at (InDeclaration held) decided = absurd (false≢true (sym decided))
  steps-at (InComment before) decided = steps-comment exact Data c before
  steps-at (InBogusComment before) decided = steps-bogus_comment exact Data c before [] keeps-none
  steps-at (InInstruction before) decided = steps-instruction exact Data c before
  steps-at (InDoctype place d) decided = steps-doctype exact Data c place d
  steps-at (InDoctypeKeyword held d) decided = absurd (false≢true (sym decided))
  steps-at (InCdata held) decided = steps-cdata exact Cdata c false false held
  steps-at (InReference stand held) decided = absurd (false≢true (sym decided))

-- ---- what a character brings

steps-brought : (inside within : Bool) (mode : Mode) (c : ℕ) (test : Bool) (p q : Brought Open) → Steps inside within mode c p.here → Steps inside within mode c q.here
    → Steps inside within mode c (if test then p else q).here
steps-brought inside within mode c true p q f g = f
steps-brought inside within mode c false p q f g = g

module _ (rules : Rules) (c : ℕ) where
  steps-declaration : (held : List ℕ) → Steps true true Data c (declaration_step rules.exact false held c).here
  unfolding declaration_step declaration_answer_step
  steps-declaration held =
      steps-brought true true Data c (bytes_eq (held ++ c ∷ []) (codes "--")) _ _ (steps-within true Data c _ _ keeps-none refl)
      (steps-brought true true Data c (bytes_eq (lower_case (held ++ c ∷ [])) (codes "doctype")) _ _ (steps-within true Data c _ _ keeps-none refl)
      (steps-brought true true Data c (begins_keyword (held ++ c ∷ [])) _ _ (steps-within true Data c _ _ keeps-none refl)
      (steps-bogus_comment rules.exact Data c held [] keeps-none)))

  steps-keyword : (held : List ℕ) (d : DoctypeOf) → Steps true true Data c (doctype_keyword_step rules.exact held d c).here
  unfolding doctype_keyword_step
  steps-keyword held d =
      steps-brought true true Data c (is_keyword Public (held ++ c ∷ [])) _ _ (steps-within true Data c _ _ keeps-none refl)
      (steps-brought true true Data c (is_keyword System (held ++ c ∷ [])) _ _ (steps-within true Data c _ _ keeps-none refl)
      (steps-brought true true Data c (begins_doctype_keyword (held ++ c ∷ [])) _ _ (steps-within true Data c _ _ keeps-none refl)
      (steps-skipped rules.exact Data c [] _ keeps-none)))

  steps-text_reference : (mode : Mode) (held : List ℕ) → Steps false false mode c (reference_step rules (InText mode) held c).here
  unfolding reference_step
  steps-text_reference mode held =
      steps-brought false false mode c (is_undecided rules.references (held ++ c ∷ [])) _ _ (steps-text false false mode c _ _ keeps-none refl refl)
      (steps-brought false false mode c (ends_number held c) _ _ (steps-text false false mode c _ _ keeps-none refl refl) (steps-at rules.exact c (Between mode) refl))

  steps-value_reference : (kind : AttrValueKind) (tag : OpenTag) (held : List ℕ) → Steps true true Data c (reference_step rules (InAttribute kind tag) held c).here
  unfolding reference_step
  steps-value_reference kind tag held =
      steps-brought true true Data c (is_undecided rules.references (held ++ c ∷ [])) _ _ (steps-within true Data c _ _ keeps-none refl)
      (steps-brought true true Data c (ends_number held c) _ _ (steps-within true Data c _ _ keeps-none refl) (steps-at rules.exact c (InTag (InValue kind) _) refl))

  -- each state, where content is never foreign
  pub brought-steps : (opened : Open) → Steps (is_inside opened) (in_markup opened) (mode_at_less_than opened) c (brought_at rules false opened c).here
  unfolding brought_at
  brought-steps (InReference (InText mode) held) = steps-text_reference mode held
  brought-steps (InReference (InAttribute kind tag) held) = steps-value_reference kind tag held
  brought-steps (InDeclaration held) = steps-declaration held
  brought-steps (InDoctypeKeyword held d) = steps-keyword held d
  brought-steps (InDoctype place d) = steps-at rules.exact c (InDoctype place d) refl
  brought-steps (InComment before) = steps-at rules.exact c (InComment before) refl
  brought-steps (InBogusComment before) = steps-at rules.exact c (InBogusComment before) refl
  brought-steps (InInstruction before) = steps-at rules.exact c (InInstruction before) refl
  brought-steps (Between mode) = steps-at rules.exact c (Between mode) refl
  brought-steps LessThan = steps-at rules.exact c LessThan refl
  brought-steps LessThanSolidus = steps-at rules.exact c LessThanSolidus refl
  brought-steps (InTag place tag) = steps-at rules.exact c (InTag place tag) refl
  brought-steps (InRaw place name) = steps-at rules.exact c (InRaw place name) refl
  brought-steps (InCdata held) = steps-at rules.exact c (InCdata held) refl

-- a `<` that is read in a mode tells no markup, and leads to what it may begin there
pub at_less_than : (exact : Bool) (mode : Mode) → (told : List Told) × (step_at exact (Between mode) less_than ≡ Tells told (after_less_than_in mode))
unfolding step_at data_step raw_step cdata_step
at_less_than exact Data = (_, refl)
at_less_than exact Plain = (_, refl)
at_less_than exact (RawText raw name) = (_, refl)
at_less_than exact Cdata = (_, refl)
