-- Where the machine stands between the items of raw text, and what it does at their characters.
use Rattle.std.proofs.Common.{◌≡◌, ℕ, Bool, true, false, List, [], ◌∷◌, ◌++◌, refl, ap, sym, ◌∙◌, subst}
use Rattle.std.specs.Prelude.{◌==◌, ◌||◌, ◌&&◌, not, codes, length, nat_eq, if◌then◌else◌}
use Rattle.std.specs.List.{list_all}
use Rattle.std.proofs.Math.Bool.{and-false}
use Rattle.std.proofs.lemmas.Bool.{eqb-true, false_from_ne_true, false≢true, and_parts, not-true}
use Rattle.std.proofs.lemmas.List.{append_assoc, append-nil}
use Rattle.html5ever_interface.specs.Token.{Told}
use Rattle.html5ever_interface.specs.declared.states.RawKind.{RawKind}
use Rattle.html5ever_interface.specs.declared.states.RawKind.TheVariants as raw_kind
use Rattle.html5ever_interface.specs.declared.states.ScriptEscapeKind.{ScriptEscapeKind}
use Rattle.html5ever_interface.specs.declared.states.ScriptEscapeKind.TheVariants as escape_kind
use Rattle.html5reading.specs.Characters.{null, exclamation_mark, ampersand, hyphen, solidus, less_than, greater_than, is_letter, is_white_space}
use Rattle.html5grammar.specs.Spelled.{spell}
use Rattle.html5reading.specs.RawText.{texts, ends_name, kind_of, is_rcdata, dashes_after, raw_after, raw_character, ends_raw_text, switched, told_at_less_than, told_after_less_than, begins_mark, begins_switch}
use Rattle.html5reading.specs.Reading.Here.{Tells}
use Rattle.html5reading.specs.Slice.{after_run}
use Rattle.html5reading.specs.Start.{Raw, RawPlace, Open, raw_of}
use Rattle.html5reading.specs.Start.Dashes.{NoDash, TwoDashes}
use Rattle.html5reading.specs.Start.Mode.{RawText}
use Rattle.html5reading.specs.Start.Open.{Between, InRaw}
use Rattle.html5reading.specs.Start.Raw.{ScriptData, Escaped, DoubleEscaped}
use Rattle.html5reading.specs.Start.RawPlace.{AfterLessThan, InEndName, AfterMark, AfterMarkAndDash, InSwitch}
use Rattle.html5reading.specs.Tag.{in_tag_name}
use Rattle.html5grammar.specs.RawText.{RawItem, switched_kind, raw_after_item, switch_text, item_text, next_is, begins_dash, begins_dashes, begins_name_and_end, is_alone_before, is_double_escaped, is_script_data, can_switch, can_stand, carried, carried_to, spell_text, spell_after_less_than, spell_item, ends_in_letters}
use Rattle.html5grammar.specs.RawText.RawItem.{Character, LessThan, Letters, Mark, Switch}
use Rattle.html5reading.proofs.Letters.{letter-no_null, letter-no_solidus, is_not, letter-in_tag_name}
use Rattle.html5reading.specs.Machine.{step_at, raw_step, end_name_step, switch_step, mark_step, mark_and_dash_step, raw_solidus_step, raw_less_than_step, raw_place_step}
use Rattle.html5grammar.proofs.Goes.{Goes}

-- ---- where the machine stands

-- nothing is open, or something that the next character may continue
pub data Standing : Type 0 where
  Free : Raw → Standing
  Within : RawPlace → Standing

abbrev pub opened_at : List ℕ → Standing → Open
opened_at name (Free raw) = Between (RawText raw name)
opened_at name (Within place) = InRaw place name

-- the raw text there
abbrev pub raw_at : Standing → Raw
raw_at (Free raw) = raw
raw_at (Within (AfterLessThan kind)) = raw_of kind
raw_at (Within (InEndName kind letters)) = raw_of kind
raw_at (Within AfterMark) = ScriptData
raw_at (Within AfterMarkAndDash) = ScriptData
raw_at (Within (InSwitch kind letters)) = raw_of (raw_kind.ScriptDataEscaped kind)

-- what is carried there
abbrev pub carried_at : Standing → List Told
carried_at (Free raw) = []
carried_at (Within (AfterLessThan kind)) = told_after_less_than kind
carried_at (Within (InEndName kind letters)) = texts (less_than ∷ solidus ∷ letters)
carried_at (Within AfterMark) = []
carried_at (Within AfterMarkAndDash) = []
carried_at (Within (InSwitch kind letters)) = []

-- whether nothing that is open there goes on to its end in the text after
abbrev pub fits : List ℕ → Standing → List ℕ → Bool
fits name (Free raw) text = true
fits name (Within (AfterLessThan kind)) text = is_alone_before kind text
fits name (Within (InEndName kind letters)) text = not (next_is is_letter text) && not (next_is (ends_raw_text name letters) text)
fits name (Within AfterMark) text = not (begins_dashes text)
fits name (Within AfterMarkAndDash) text = not (begins_dash text)
fits name (Within (InSwitch kind letters)) text = not (begins_name_and_end text)

-- whether the text ends there, or in letters, after the `<` of escaped script data and a letter
abbrev pub in_letters : Standing → List ℕ → Bool
in_letters (Within (AfterLessThan kind)) text = ends_in_letters LessThan kind text
in_letters (Within (InSwitch escape_kind.Escaped letters)) text = list_all is_letter text
in_letters standing text = false

-- the raw text that the error of the end speaks of, where that is `raw` after this text
abbrev pub end_from : Standing → List ℕ → Raw → Raw
end_from standing text raw = if in_letters standing text then DoubleEscaped NoDash else raw

-- whether c continues the open item
abbrev pub continues : List ℕ → Standing → ℕ → Bool
continues name (Free raw) c = false
continues name (Within (AfterLessThan kind)) c = (c == solidus) || (begins_mark kind c || begins_switch kind c)
continues name (Within (InEndName kind letters)) c = is_letter c || ends_raw_text name letters c
continues name (Within AfterMark) c = c == hyphen
continues name (Within AfterMarkAndDash) c = c == hyphen
continues name (Within (InSwitch kind letters)) c = is_letter c || ends_name c

-- ---- kinds of characters

or_false : (a b : Bool) → (a || b) ≡ false → (a ≡ false) × (b ≡ false)
or_false true b h = absurd (false≢true (sym h))
or_false false b h = (refl, h)

or_none : (a : Bool) → (a || false) ≡ true → a ≡ true
or_none true h = refl
or_none false h = h

-- a character that is not NUL is sent as it is
told-plain : (exact : Bool) (raw : Raw) (c : ℕ) → (c == null) ≡ false → raw_character exact raw c ≡ texts (c ∷ [])
unfolding raw_character
told-plain exact raw c h = rw h refl

module _ (exact : Bool) (name : List ℕ) where
  -- a character that does not continue the open item is read as raw text, after what is carried
  pub reads_anew : (standing : Standing) (c : ℕ) → continues name standing c ≡ false
      → step_at exact (opened_at name standing) c ≡ raw_step exact (raw_at standing) name (carried_at standing) c
  unfolding step_at raw_place_step raw_less_than_step end_name_step mark_step mark_and_dash_step switch_step
  reads_anew (Free raw) c h = refl
  reads_anew (Within (AfterLessThan kind)) c h =
      let p = or_false (c == solidus) _ h in
      let q = or_false (begins_mark kind c) (begins_switch kind c) p.1 in
      rw (p.0, q.0, q.1) refl
  reads_anew (Within (InEndName kind letters)) c h =
      let p = or_false (is_letter c) (ends_raw_text name letters c) h in
      rw (p.0, p.1) refl
  reads_anew (Within AfterMark) c h = rw h refl
  reads_anew (Within AfterMarkAndDash) c h = rw h refl
  reads_anew (Within (InSwitch kind letters)) c h =
      let p = or_false (is_letter c) (ends_name c) h in
      rw (p.0, p.1) refl

  -- a `<` continues nothing
  pub less_than-anew : (standing : Standing) → continues name standing less_than ≡ false
  unfolding begins_mark begins_switch ends_raw_text ends_name is_letter is_white_space
  less_than-anew (Free raw) = refl
  less_than-anew (Within (AfterLessThan raw_kind.Rcdata)) = refl
  less_than-anew (Within (AfterLessThan raw_kind.Rawtext)) = refl
  less_than-anew (Within (AfterLessThan raw_kind.ScriptData)) = refl
  less_than-anew (Within (AfterLessThan (raw_kind.ScriptDataEscaped escape_kind.Escaped))) = refl
  less_than-anew (Within (AfterLessThan (raw_kind.ScriptDataEscaped escape_kind.DoubleEscaped))) = refl
  less_than-anew (Within (InEndName kind letters)) = and-false (not (nat_eq (length name) 0))
  less_than-anew (Within AfterMark) = refl
  less_than-anew (Within AfterMarkAndDash) = refl
  less_than-anew (Within (InSwitch kind letters)) = refl

  pub reads_less_than : (standing : Standing)
      → step_at exact (opened_at name standing) less_than
      ≡ Tells (carried_at standing ++ told_at_less_than (kind_of (raw_at standing))) (InRaw (AfterLessThan (kind_of (raw_at standing))) name)
  unfolding raw_step
  reads_less_than standing = reads_anew standing less_than (less_than-anew standing)

  -- a character that is text, and what is open after it
  pub record ReadsCharacter (standing : Standing) (c : ℕ) (text : List ℕ) : Type 0 where
    pub next : Standing
    pub step : step_at exact (opened_at name standing) c ≡ Tells (carried_at standing ++ raw_character exact (raw_at standing) c) (opened_at name next)
    pub raw_is : raw_at next ≡ raw_after (raw_at standing) c
    pub carried_is : carried_at next ≡ []
    pub fits_after : fits name next text ≡ true
    pub letters_is : (T : List ℕ) → in_letters standing (c ∷ T) ≡ in_letters next T

  -- what is read anew ends such letters before it
  letters-anew : (standing : Standing) (c : ℕ) (T : List ℕ) → continues name standing c ≡ false → in_letters standing (c ∷ T) ≡ false
  unfolding begins_mark begins_switch
  letters-anew (Free raw) c T h = refl
  letters-anew (Within (AfterLessThan raw_kind.Rcdata)) c T h = refl
  letters-anew (Within (AfterLessThan raw_kind.Rawtext)) c T h = refl
  letters-anew (Within (AfterLessThan raw_kind.ScriptData)) c T h = refl
  letters-anew (Within (AfterLessThan (raw_kind.ScriptDataEscaped escape_kind.Escaped))) c T h = rw (or_false (c == solidus) (is_letter c) h).1 refl
  letters-anew (Within (AfterLessThan (raw_kind.ScriptDataEscaped escape_kind.DoubleEscaped))) c T h = refl
  letters-anew (Within (InEndName kind letters)) c T h = refl
  letters-anew (Within AfterMark) c T h = refl
  letters-anew (Within AfterMarkAndDash) c T h = refl
  letters-anew (Within (InSwitch escape_kind.Escaped letters)) c T h = rw (or_false (is_letter c) (ends_name c) h).0 refl
  letters-anew (Within (InSwitch escape_kind.DoubleEscaped letters)) c T h = refl

  -- a character that goes on with nothing that is open is read anew
  reads-anew_character : (standing : Standing) (c : ℕ) (text : List ℕ) → (c == less_than) ≡ false → (is_rcdata (raw_at standing) && (c == ampersand)) ≡ false
      → continues name standing c ≡ false → ReadsCharacter standing c text
  unfolding raw_step
  reads-anew_character standing c text no_less_than no_ampersand h = record {
    next = Free (raw_after (raw_at standing) c);
    step = reads_anew standing c h ∙ rw (no_less_than, no_ampersand) refl;
    raw_is = refl;
    carried_is = refl;
    fits_after = refl;
    letters_is = λ T. letters-anew standing c T h;
  }

  -- after a letter nothing has changed
  after-letter : (c : ℕ) → is_letter c ≡ true → raw_after (Escaped NoDash) c ≡ Escaped NoDash
  unfolding raw_after dashes_after is_letter
  after-letter c h = rw (and-false (c == greater_than), is_not is_letter c hyphen refl h) refl

  after-double_letter : (c : ℕ) → is_letter c ≡ true → raw_after (DoubleEscaped NoDash) c ≡ DoubleEscaped NoDash
  unfolding raw_after dashes_after is_letter
  after-double_letter c h = rw (and-false (c == greater_than), is_not is_letter c hyphen refl h) refl

  after-in_switch : (kind : ScriptEscapeKind) (c : ℕ) → is_letter c ≡ true
      → raw_after (raw_of (raw_kind.ScriptDataEscaped kind)) c ≡ raw_of (raw_kind.ScriptDataEscaped kind)
  after-in_switch escape_kind.Escaped c h = after-letter c h
  after-in_switch escape_kind.DoubleEscaped c h = after-double_letter c h

  letters-in_switch : (kind : ScriptEscapeKind) (letters more : List ℕ) (c : ℕ) (T : List ℕ) → is_letter c ≡ true
      → in_letters (Within (InSwitch kind letters)) (c ∷ T) ≡ in_letters (Within (InSwitch kind more)) T
  letters-in_switch escape_kind.Escaped letters more c T h = rw h refl
  letters-in_switch escape_kind.DoubleEscaped letters more c T h = refl

  -- a character that continues the open item

  -- a character after letters that may switch
  reads-in_switch : (kind : ScriptEscapeKind) (letters : List ℕ) (c : ℕ) (text : List ℕ) (b : Bool) → is_letter c ≡ b
      → not (begins_name_and_end (c ∷ text)) ≡ true → (is_letter c || ends_name c) ≡ true → ReadsCharacter (Within (InSwitch kind letters)) c text
  unfolding step_at raw_place_step switch_step after_run
  reads-in_switch kind letters c text true letter f h = record {
    next = Within (InSwitch kind (letters ++ c ∷ []));
    step = rw (letter, told-plain exact (raw_of (raw_kind.ScriptDataEscaped kind)) c (letter-no_null c letter)) refl;
    raw_is = sym (after-in_switch kind c letter);
    carried_is = refl;
    fits_after = sym (ap (λ b. not (next_is ends_name (if b then after_run is_letter text else c ∷ text))) letter) ∙ f;
    letters_is = λ T. letters-in_switch kind letters (letters ++ c ∷ []) c T letter;
  }
  reads-in_switch kind letters c text false other f h =
      let ends : ends_name c ≡ true = sym (ap (λ b. b || ends_name c) other) ∙ h in
      absurd (false≢true (sym (ap not ends) ∙ sym (ap (λ b. not (next_is ends_name (if b then after_run is_letter text else c ∷ text))) other) ∙ f))

  -- a character after a `<` that begins nothing else
  reads-after_less_than : (kind : RawKind) (c : ℕ) (text : List ℕ) → is_alone_before kind (c ∷ text) ≡ true
      → continues name (Within (AfterLessThan kind)) c ≡ true → ReadsCharacter (Within (AfterLessThan kind)) c text
  unfolding step_at raw_place_step raw_less_than_step raw_solidus_step begins_mark begins_switch raw_after dashes_after raw_character
  reads-after_less_than raw_kind.Rcdata c text f h = absurd (false≢true (sym (ap (λ b. b || false) (not-true (c == solidus) f)) ∙ h))
  reads-after_less_than raw_kind.Rawtext c text f h = absurd (false≢true (sym (ap (λ b. b || false) (not-true (c == solidus) f)) ∙ h))
  reads-after_less_than raw_kind.ScriptData c text f h =
      let p = and_parts (not (c == solidus)) (not ((c == exclamation_mark) && begins_dashes text)) f in
      let no_solidus = not-true (c == solidus) p.0 in
      let mark : (c == exclamation_mark) ≡ true = or_none (c == exclamation_mark) (sym (ap (λ b. b || ((c == exclamation_mark) || false)) no_solidus) ∙ h) in
      record {
        next = Within AfterMark;
        step = rw (eqb-true c exclamation_mark mark) refl;
        raw_is = refl;
        carried_is = refl;
        fits_after = sym (ap (λ b. not (b && begins_dashes text)) mark) ∙ p.1;
        letters_is = λ T. refl;
      }
  reads-after_less_than (raw_kind.ScriptDataEscaped escape_kind.Escaped) c text f h =
      let p = and_parts (not (c == solidus)) (not (is_letter c && begins_name_and_end text)) f in
      let no_solidus = not-true (c == solidus) p.0 in
      let letter : is_letter c ≡ true = sym (ap (λ b. b || (false || is_letter c)) no_solidus) ∙ h in
      record {
        next = Within (InSwitch escape_kind.Escaped (c ∷ []));
        step = rw (no_solidus, letter, letter-no_null c letter) refl;
        raw_is = sym (after-letter c letter);
        carried_is = refl;
        fits_after = sym (ap (λ b. not (b && begins_name_and_end text)) letter) ∙ p.1;
        letters_is = λ T. rw letter refl;
      }
  reads-after_less_than (raw_kind.ScriptDataEscaped escape_kind.DoubleEscaped) c text f h =
      let is_solidus : (c == solidus) ≡ true = or_none (c == solidus) h in
      record {
        next = Within (InSwitch escape_kind.DoubleEscaped []);
        step = rw (eqb-true c solidus is_solidus) refl;
        raw_is = rw (eqb-true c solidus is_solidus) refl;
        carried_is = refl;
        fits_after = sym (ap (λ b. not (b && begins_name_and_end text)) is_solidus) ∙ f;
        letters_is = λ T. refl;
      }

  -- a character that goes on with the open item
  reads-on_character : (standing : Standing) (c : ℕ) (text : List ℕ) → fits name standing (c ∷ text) ≡ true
      → continues name standing c ≡ true → ReadsCharacter standing c text
  unfolding step_at raw_place_step mark_step raw_after raw_character
  reads-on_character (Free raw) c text f h = absurd (false≢true h)
  reads-on_character (Within (AfterLessThan kind)) c text f h = reads-after_less_than kind c text f h
  reads-on_character (Within (InEndName kind letters)) c text f h =
      let p = and_parts (not (is_letter c)) (not (ends_raw_text name letters c)) f in
      absurd (false≢true (sym (rw (not-true (is_letter c) p.0, not-true (ends_raw_text name letters c) p.1) refl) ∙ h))
  reads-on_character (Within AfterMark) c text f h = record {
    next = Within AfterMarkAndDash;
    step = rw (eqb-true c hyphen h) refl;
    raw_is = refl;
    carried_is = refl;
    fits_after = sym (ap (λ b. not (b && begins_dash text)) h) ∙ f;
    letters_is = λ T. refl;
  }
  reads-on_character (Within AfterMarkAndDash) c text f h = absurd (false≢true (sym (ap not h) ∙ f))
  reads-on_character (Within (InSwitch kind letters)) c text f h = reads-in_switch kind letters c text (is_letter c) refl f h

  reads_character-if : (standing : Standing) (c : ℕ) (text : List ℕ) (b : Bool) → continues name standing c ≡ b
      → (c == less_than) ≡ false → (is_rcdata (raw_at standing) && (c == ampersand)) ≡ false
      → fits name standing (c ∷ text) ≡ true → ReadsCharacter standing c text
  reads_character-if standing c text true h no_less_than no_ampersand f = reads-on_character standing c text f h
  reads_character-if standing c text false h no_less_than no_ampersand f = reads-anew_character standing c text no_less_than no_ampersand h

  pub reads_character : (standing : Standing) (c : ℕ) (text : List ℕ)
      → (c == less_than) ≡ false → (is_rcdata (raw_at standing) && (c == ampersand)) ≡ false
      → fits name standing (c ∷ text) ≡ true → ReadsCharacter standing c text
  reads_character standing c text = reads_character-if standing c text (continues name standing c) refl

  -- ---- what begins with `<`

  -- letters that tell nothing
  goes-end_name : (kind : RawKind) (tells : ℕ → List Told) (before letters : List ℕ) → ((c : ℕ) → is_letter c ≡ true → tells c ≡ [])
      → list_all is_letter letters ≡ true
      → Goes exact (InRaw (InEndName kind before) name) (spell tells letters) (InRaw (InEndName kind (before ++ letters)) name)
  unfolding Goes step_at raw_place_step end_name_step
  goes-end_name kind tells before [] silent all = ap (λ l. InRaw (InEndName kind l) name) (sym (append-nil before))
  goes-end_name kind tells before (c ∷ letters) silent all =
      let p = and_parts (is_letter c) (list_all is_letter letters) all in (
        InRaw (InEndName kind (before ++ c ∷ [])) name,
        rw (p.0, silent c p.0) refl,
        subst (λ l. Goes exact (InRaw (InEndName kind (before ++ c ∷ [])) name) (spell tells letters) (InRaw (InEndName kind l) name)) (append_assoc before (c ∷ []) letters)
            (goes-end_name kind tells (before ++ c ∷ []) letters silent p.1),
      )

  step-end_solidus : (kind : RawKind) → is_double_escaped kind ≡ false
      → step_at exact (InRaw (AfterLessThan kind) name) solidus ≡ Tells [] (InRaw (InEndName kind []) name)
  unfolding step_at raw_place_step raw_less_than_step raw_solidus_step
  step-end_solidus raw_kind.Rcdata h = refl
  step-end_solidus raw_kind.Rawtext h = refl
  step-end_solidus raw_kind.ScriptData h = refl
  step-end_solidus (raw_kind.ScriptDataEscaped escape_kind.Escaped) h = refl
  step-end_solidus (raw_kind.ScriptDataEscaped escape_kind.DoubleEscaped) h = absurd (false≢true (sym h))

  pub goes-end_letters : (kind : RawKind) (tells : ℕ → List Told) (letters : List ℕ) → ((c : ℕ) → is_letter c ≡ true → tells c ≡ [])
      → is_double_escaped kind ≡ false → list_all is_letter letters ≡ true
      → Goes exact (InRaw (AfterLessThan kind) name) (record { character = solidus; told = [] } ∷ spell tells letters) (InRaw (InEndName kind letters) name)
  unfolding Goes
  goes-end_letters kind tells letters silent single all =
      (InRaw (InEndName kind []) name, step-end_solidus kind single, goes-end_name kind tells [] letters silent all)

  pub goes-mark : (kind : RawKind) → is_script_data kind ≡ true
      → Goes exact (InRaw (AfterLessThan kind) name) (spell_after_less_than kind Mark) (Between (RawText (Escaped TwoDashes) name))
  unfolding Goes step_at raw_place_step raw_less_than_step mark_step mark_and_dash_step begins_mark
  goes-mark raw_kind.Rcdata h = absurd (false≢true h)
  goes-mark raw_kind.Rawtext h = absurd (false≢true h)
  goes-mark raw_kind.ScriptData h = (InRaw AfterMark name, refl, (InRaw AfterMarkAndDash name, refl, (Between (RawText (Escaped TwoDashes) name), refl, refl)))
  goes-mark (raw_kind.ScriptDataEscaped kind) h = absurd (false≢true h)

  pub end-no_letter : (c : ℕ) → ends_name c ≡ true → is_letter c ≡ false
  unfolding ends_name in_tag_name
  end-no_letter c h = false_from_ne_true (is_letter c) (λ letter. false≢true (sym (not-true (ends_name c) (letter-in_tag_name c letter)) ∙ h))

  -- letters that switch, and the character that ends them
  goes-switch_letters : (kind : ScriptEscapeKind) (before letters : List ℕ) (c : ℕ) → list_all is_letter letters ≡ true → ends_name c ≡ true
      → Goes exact (InRaw (InSwitch kind before) name) (spell_text (letters ++ c ∷ [])) (Between (RawText (raw_of (raw_kind.ScriptDataEscaped (switched kind (before ++ letters)))) name))
  unfolding Goes step_at raw_place_step switch_step
  goes-switch_letters kind before [] c all ends = (
    Between (RawText (raw_of (raw_kind.ScriptDataEscaped (switched kind before))) name),
    rw (end-no_letter c ends, ends) refl,
    ap (λ l. Between (RawText (raw_of (raw_kind.ScriptDataEscaped (switched kind l))) name)) (sym (append-nil before)),
  )
  goes-switch_letters kind before (d ∷ letters) c all ends =
      let p = and_parts (is_letter d) (list_all is_letter letters) all in (
        InRaw (InSwitch kind (before ++ d ∷ [])) name,
        rw p.0 refl,
        subst (λ l. Goes exact (InRaw (InSwitch kind (before ++ d ∷ [])) name) (spell_text (letters ++ c ∷ [])) (Between (RawText (raw_of (raw_kind.ScriptDataEscaped (switched kind l))) name))) (append_assoc before (d ∷ []) letters)
            (goes-switch_letters kind (before ++ d ∷ []) letters c p.1 ends),
      )

  -- a switch, from its `<` on
  pub goes-switch : (kind : RawKind) (letters : List ℕ) (c : ℕ) → can_switch kind letters ≡ true → list_all is_letter letters ≡ true → ends_name c ≡ true
      → Goes exact (InRaw (AfterLessThan kind) name) (spell_after_less_than kind (Switch letters c)) (Between (RawText (raw_of (switched_kind kind letters)) name))
  unfolding Goes step_at raw_place_step raw_less_than_step raw_solidus_step begins_mark begins_switch
  goes-switch raw_kind.Rcdata letters c can all ends = absurd (false≢true can)
  goes-switch raw_kind.Rawtext letters c can all ends = absurd (false≢true can)
  goes-switch raw_kind.ScriptData letters c can all ends = absurd (false≢true can)
  goes-switch (raw_kind.ScriptDataEscaped escape_kind.Escaped) [] c can all ends = absurd (false≢true can)
  goes-switch (raw_kind.ScriptDataEscaped escape_kind.Escaped) (d ∷ letters) c can all ends =
      let p = and_parts (is_letter d) (list_all is_letter letters) all in (
        InRaw (InSwitch escape_kind.Escaped (d ∷ [])) name,
        rw (letter-no_solidus d p.0, p.0) refl,
        goes-switch_letters escape_kind.Escaped (d ∷ []) letters c p.1 ends,
      )
  goes-switch (raw_kind.ScriptDataEscaped escape_kind.DoubleEscaped) letters c can all ends =
      (InRaw (InSwitch escape_kind.DoubleEscaped []) name, refl, goes-switch_letters escape_kind.DoubleEscaped [] letters c all ends)

  -- an item, and where the machine stands after it
  pub record ReadsItem (standing : Standing) (item : RawItem) (text : List ℕ) : Type 0 where
    pub next : Standing
    pub goes : Goes exact (opened_at name standing) (carried_to (carried_at standing) (spell_item exact (raw_at standing) item)) (opened_at name next)
    pub raw_is : raw_at next ≡ raw_after_item (raw_at standing) item
    pub carried_is : carried_at next ≡ carried (raw_at standing) item
    pub fits_after : fits name next text ≡ true
    pub end_is : (T : List ℕ) (r : Raw)
        → end_from standing (item_text (raw_at standing) item ++ T) (if ends_in_letters item (kind_of (raw_at standing)) T then DoubleEscaped NoDash else r)
        ≡ end_from next T r

  -- a `<` ends the letters before it
  letters-less_than : (standing : Standing) (X : List ℕ) → in_letters standing (less_than ∷ X) ≡ false
  letters-less_than standing X = letters-anew standing less_than X (less_than-anew standing)

  -- the walk reads one item of raw text as its spelled characters say
  pub reads_item : (standing : Standing) (item : RawItem) (text : List ℕ) → can_stand name (raw_at standing) item text ≡ true
      → fits name standing (item_text (raw_at standing) item ++ text) ≡ true → ReadsItem standing item text
  unfolding Goes
  reads_item standing (Character c) text can f =
      let p = and_parts (not (c == less_than)) (not (is_rcdata (raw_at standing) && (c == ampersand))) can in
      let r = reads_character standing c text (not-true (c == less_than) p.0) (not-true (is_rcdata (raw_at standing) && (c == ampersand)) p.1) f in
      record {
        next = r.next;
        goes = (opened_at name r.next, r.step, refl);
        raw_is = r.raw_is;
        carried_is = r.carried_is;
        fits_after = r.fits_after;
        end_is = λ T raw. ap (λ b. if b then DoubleEscaped NoDash else raw) (r.letters_is T);
      }
  reads_item standing LessThan text can f = record {
    next = Within (AfterLessThan (kind_of (raw_at standing)));
    goes = (InRaw (AfterLessThan (kind_of (raw_at standing))) name, reads_less_than standing, refl);
    raw_is = refl;
    carried_is = refl;
    fits_after = can;
    end_is = λ T raw. rw (letters-less_than standing T) refl;
  }
  reads_item standing (Letters letters) text can f =
      let kind : RawKind = kind_of (raw_at standing) in
      let p = and_parts (not (is_double_escaped kind)) _ can in
      let q = and_parts (list_all is_letter letters) _ p.1 in
      record {
        next = Within (InEndName kind letters);
        goes = (InRaw (AfterLessThan kind) name, reads_less_than standing, goes-end_letters kind (λ c. []) letters (λ c h. refl) (not-true (is_double_escaped kind) p.0) q.0);
        raw_is = refl;
        carried_is = refl;
        fits_after = q.1;
        end_is = λ T raw. rw (letters-less_than standing ((solidus ∷ letters) ++ T)) refl;
      }
  reads_item standing Mark text can f =
      let kind : RawKind = kind_of (raw_at standing) in
      record {
        next = Free (Escaped TwoDashes);
        goes = (InRaw (AfterLessThan kind) name, reads_less_than standing, goes-mark kind can);
        raw_is = refl;
        carried_is = refl;
        fits_after = refl;
        end_is = λ T raw. rw (letters-less_than standing (codes "!--" ++ T)) refl;
      }
  reads_item standing (Switch letters c) text can f =
      let kind : RawKind = kind_of (raw_at standing) in
      let p = and_parts (can_switch kind letters) _ can in
      let q = and_parts (list_all is_letter letters) (ends_name c) p.1 in
      record {
        next = Free (raw_of (switched_kind kind letters));
        goes = (InRaw (AfterLessThan kind) name, reads_less_than standing, goes-switch kind letters c p.0 q.0 q.1);
        raw_is = refl;
        carried_is = refl;
        fits_after = refl;
        end_is = λ T raw. rw (letters-less_than standing (switch_text kind letters c ++ T)) refl;
      }
