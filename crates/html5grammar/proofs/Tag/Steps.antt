-- What the machine does at the characters of one tag.
use Rattle.std.proofs.Common.{◌≡◌, ℕ, Bool, true, false, List, [], ◌∷◌, ◌++◌, refl}
use Rattle.std.specs.Prelude.{◌==◌, ◌||◌, not}
use Rattle.std.specs.List.{list_all}
use Rattle.std.proofs.lemmas.Bool.{false≢true, not-true}
use Rattle.html5ever_interface.specs.declared.states.AttrValueKind.TheVariants.{Unquoted, SingleQuoted, DoubleQuoted}
use Rattle.html5ever_interface.specs.declared.states.State.TheVariants as state
use Rattle.html5reading.specs.Characters.{ampersand, solidus, equals_sign, greater_than, is_white_space, is_letter}
use Rattle.html5grammar.specs.Spelled.{spell, spell_silent, Spelled}
use Rattle.html5grammar.specs.Tag.{begins_attribute, takes_blank, takes_solidus, takes_attribute, place_after, end_error, opening}
use Rattle.html5grammar.specs.Tag.Part.{Blank}
use Rattle.html5reading.specs.Reading.Here.{Tells, TellsTag}
use Rattle.html5reading.specs.Start.{OpenTag, Place, begun, Open}
use Rattle.html5reading.specs.Start.Place.{InName, BeforeAttribute, InAttributeName, AfterAttributeName, BeforeValue, InValue, AfterQuotedValue, AfterSolidus}
use Rattle.html5reading.specs.Start.Open.{InTag, LessThan, LessThanSolidus, Between}
use Rattle.html5reading.specs.Slice.{silent}
use Rattle.html5reading.specs.Tag.{with_last_attribute, duplicate_error, end_tag_errors, told_tag, null_error, in_unquoted, in_attribute_name, attribute_name_error, with_last_name, place_error, first_error, is_after_solidus, in_tag_name, with_name}
use Rattle.html5reading.specs.Machine.{step_at, closing_step, tag_name_step, part_step, attribute_name_step, after_attribute_name_step, unquoted_step, before_value_step, tag_step, data_step, less_than_step, solidus_step}
use Rattle.html5grammar.proofs.Goes.{Goes, goes-run}
use Rattle.html5reading.proofs.Letters.{is_not, letter-in_tag_name}
use Rattle.html5reading.proofs.Slices.{with_name-nil, with_last_name-nil, with_name-cons, with_last_name-cons}
use Rattle.html5reading.specs.Start.Mode.{Data}
use Rattle.html5ever_interface.specs.declared.interface.token.TagKind.{TagKind}
use Rattle.html5ever_interface.specs.declared.interface.token.TagKind.TheVariants.{StartTag, EndTag}

-- ---- kinds of characters

pub no_or : (a b d : Bool) → not (a || b || d) ≡ true → (a ≡ false) × (b ≡ false) × (d ≡ false)
no_or true b d h = absurd (false≢true h)
no_or false true d h = absurd (false≢true h)
no_or false false true h = absurd (false≢true h)
no_or false false false h = (refl, refl, refl)

record IsFirst (c : ℕ) : Type 0 where
  pub no_white : is_white_space c ≡ false
  pub no_solidus : (c == solidus) ≡ false
  pub no_end : (c == greater_than) ≡ false

is_first : (c : ℕ) → begins_attribute c ≡ true → IsFirst c
unfolding begins_attribute
is_first c h =
    let p = no_or (is_white_space c) (c == solidus) (c == greater_than) h in
    record { no_white = p.0; no_solidus = p.1; no_end = p.2 }

record IsBlank (c : ℕ) : Type 0 where
  pub no_end : (c == greater_than) ≡ false
  pub no_ampersand : (c == ampersand) ≡ false

is_blank : (c : ℕ) → is_white_space c ≡ true → IsBlank c
unfolding is_white_space
is_blank c h = record { no_end = is_not is_white_space c greater_than refl h; no_ampersand = is_not is_white_space c ampersand refl h }

-- a tag can end at each place but within quotes
abbrev pub can_end : Place → Bool
can_end (InValue SingleQuoted) = false
can_end (InValue DoubleQuoted) = false
can_end place = true

module _ (exact : Bool) where
  pub goes-name : (tag : OpenTag) (run : List ℕ) → list_all in_tag_name run ≡ true
      → Goes exact (InTag InName tag) (spell (null_error exact state.TagName) run) (InTag InName (with_name tag run))
  unfolding step_at tag_step tag_name_step
  goes-name tag run all = goes-run exact (InTag InName) with_name in_tag_name (null_error exact state.TagName) with_name-nil with_name-cons (λ t c h. rw h refl) tag run all

  pub goes-attribute_name : (tag : OpenTag) (run : List ℕ) → list_all in_attribute_name run ≡ true
      → Goes exact (InTag InAttributeName tag) (spell (attribute_name_error exact) run) (InTag InAttributeName (with_last_name tag run))
  unfolding step_at tag_step attribute_name_step
  goes-attribute_name tag run all =
      goes-run exact (InTag InAttributeName) with_last_name in_attribute_name (attribute_name_error exact) with_last_name-nil with_last_name-cons (λ t c h. rw h refl) tag run all

  abbrev unchanged : OpenTag → List ℕ → OpenTag
  unchanged tag run = tag

  pub goes-space_after_name : (tag : OpenTag) (run : List ℕ) → list_all is_white_space run ≡ true
      → Goes exact (InTag AfterAttributeName tag) (spell_silent run) (InTag AfterAttributeName tag)
  unfolding step_at tag_step after_attribute_name_step
  goes-space_after_name tag run all =
      goes-run exact (InTag AfterAttributeName) unchanged is_white_space silent (λ t. refl) (λ t c r. refl) (λ t c h. rw h refl) tag run all

  pub goes-space_before_value : (tag : OpenTag) (run : List ℕ) → list_all is_white_space run ≡ true
      → Goes exact (InTag BeforeValue tag) (spell_silent run) (InTag BeforeValue tag)
  unfolding step_at tag_step before_value_step
  goes-space_before_value tag run all =
      goes-run exact (InTag BeforeValue) unchanged is_white_space silent (λ t. refl) (λ t c r. refl) (λ t c h. rw h refl) tag run all

  -- ---- single characters

  -- white space between two parts
  pub step-blank : (place : Place) (tag : OpenTag) (c : ℕ) → takes_blank place ≡ true → is_white_space c ≡ true
      → step_at exact (InTag place tag) c ≡ Tells (place_error exact place c) (InTag (place_after place (Blank c)) tag)
  unfolding step_at tag_step tag_name_step part_step attribute_name_step after_attribute_name_step unquoted_step in_tag_name in_attribute_name in_unquoted place_error
  step-blank InName tag c takes h = rw h refl
  step-blank BeforeAttribute tag c takes h = rw ((is_blank c h).no_end, h) refl
  step-blank InAttributeName tag c takes h = rw h refl
  step-blank AfterAttributeName tag c takes h = rw h refl
  step-blank BeforeValue tag c takes h = absurd (false≢true takes)
  step-blank (InValue Unquoted) tag c takes h = rw (h, (is_blank c h).no_ampersand, (is_blank c h).no_end) refl
  step-blank (InValue SingleQuoted) tag c takes h = absurd (false≢true takes)
  step-blank (InValue DoubleQuoted) tag c takes h = absurd (false≢true takes)
  step-blank AfterQuotedValue tag c takes h = rw ((is_blank c h).no_end, h) refl
  step-blank AfterSolidus tag c takes h = rw ((is_blank c h).no_end, h) refl

  -- a `/` where it can stand
  pub step-solidus : (place : Place) (tag : OpenTag) → takes_solidus place ≡ true
      → step_at exact (InTag place tag) solidus ≡ Tells (place_error exact place solidus) (InTag AfterSolidus tag)
  unfolding step_at tag_step tag_name_step part_step attribute_name_step after_attribute_name_step in_tag_name in_attribute_name is_white_space place_error
  step-solidus InName tag takes = refl
  step-solidus BeforeAttribute tag takes = refl
  step-solidus InAttributeName tag takes = refl
  step-solidus AfterAttributeName tag takes = refl
  step-solidus BeforeValue tag takes = absurd (false≢true takes)
  step-solidus (InValue kind) tag takes = absurd (false≢true takes)
  step-solidus AfterQuotedValue tag takes = refl
  step-solidus AfterSolidus tag takes = refl

  -- the first character of an attribute's name
  pub step-first : (place : Place) (tag : OpenTag) (c : ℕ) → takes_attribute place c ≡ true → begins_attribute c ≡ true
      → step_at exact (InTag place tag) c
      ≡ Tells (place_error exact place c ++ (first_error exact place c ++ duplicate_error tag)) (InTag InAttributeName (with_last_name (with_last_attribute tag) (c ∷ [])))
  unfolding step_at tag_step part_step after_attribute_name_step
  step-first InName tag c takes begins = absurd (false≢true takes)
  step-first BeforeAttribute tag c takes begins = let f = is_first c begins in rw (f.no_end, f.no_white, f.no_solidus) refl
  step-first InAttributeName tag c takes begins = absurd (false≢true takes)
  step-first AfterAttributeName tag c takes begins =
      let f = is_first c begins in
      rw (f.no_white, not-true (c == equals_sign) takes, f.no_end, f.no_solidus) refl
  step-first BeforeValue tag c takes begins = absurd (false≢true takes)
  step-first (InValue kind) tag c takes begins = absurd (false≢true takes)
  step-first AfterQuotedValue tag c takes begins = let f = is_first c begins in rw (f.no_end, f.no_white, f.no_solidus) refl
  step-first AfterSolidus tag c takes begins = let f = is_first c begins in rw (f.no_end, f.no_white, f.no_solidus) refl

  -- the `>` where the tag can end
  pub step-end : (place : Place) (tag : OpenTag) → can_end place ≡ true
      → step_at exact (InTag place tag) greater_than
      ≡ TellsTag (end_error exact place ++ (duplicate_error tag ++ end_tag_errors (with_last_attribute tag) (is_after_solidus place))) (told_tag (with_last_attribute tag) (is_after_solidus place))
  unfolding step_at tag_step tag_name_step part_step attribute_name_step after_attribute_name_step before_value_step unquoted_step closing_step in_tag_name in_attribute_name in_unquoted is_white_space place_error
  step-end InName tag ends = refl
  step-end BeforeAttribute tag ends = refl
  step-end InAttributeName tag ends = refl
  step-end AfterAttributeName tag ends = refl
  step-end BeforeValue tag ends = refl
  step-end (InValue Unquoted) tag ends = refl
  step-end (InValue SingleQuoted) tag ends = absurd (false≢true ends)
  step-end (InValue DoubleQuoted) tag ends = absurd (false≢true ends)
  step-end AfterQuotedValue tag ends = refl
  step-end AfterSolidus tag ends = refl

  -- ---- when nothing is open

  -- after `<`, or `</`, a letter begins the name
  pub goes-opening : (kind : TagKind) (cells : List Spelled) (later : Open) (c : ℕ)
      → is_letter c ≡ true
      → Goes exact (InTag InName (with_name (begun kind) (c ∷ []))) cells later
      → Goes exact (Between Data) (spell_silent (opening kind) ++ record { character = c; told = null_error exact state.TagName c } ∷ cells) later
  unfolding Goes step_at data_step less_than_step solidus_step tag_name_step is_letter
  goes-opening StartTag cells later c letter goes = (
    LessThan,
    refl,
    (InTag InName (with_name (begun StartTag) (c ∷ [])), rw (letter, letter-in_tag_name c letter) refl, goes),
  )
  goes-opening EndTag cells later c letter goes = (
    LessThan,
    refl,
    (
      LessThanSolidus,
      refl,
      (InTag InName (with_name (begun EndTag) (c ∷ [])), rw (letter, letter-in_tag_name c letter) refl, goes),
    ),
  )
