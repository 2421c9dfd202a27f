-- A text that begins markup at its `<`, which stays open in all of it.
use Rattle.std.proofs.Common.{◌≡◌, ◌≢◌, ◌≤◌, ℕ, Bool, true, false, List, [], ◌∷◌, ◌++◌, length, length-append, refl, ap, sym, ◌∙◌, subst, arith}
use Rattle.std.specs.Prelude.{◌==◌, ◌&&◌, None, if◌then◌else◌}
use Rattle.std.proofs.lemmas.Bool.{eqb-true, false_from_ne_true, false≢true}
use Rattle.html5ever_interface.specs.Token.{Told}
use Rattle.html5ever_interface.specs.Token.Told.{End}
use Rattle.html5ever_interface.specs.declared.states.RawKind.{RawKind}
use Rattle.html5ever_interface.specs.declared.states.RawKind.TheVariants as raw_kind
use Rattle.html5ever_interface.specs.declared.states.ScriptEscapeKind.TheVariants as escape_kind
use Rattle.html5feed.specs.Beginning.{is_after_less_than}
use Rattle.html5grammar.specs.Items.{is_lone_before}
use Rattle.html5grammar.specs.RawText.{is_double_escaped}
use Rattle.html5grammar.proofs.Split.{cons_first, cons_rest, nil≢cons}
use Rattle.html5reading.specs.Characters.{ampersand, exclamation_mark, is_letter, less_than, null, question_mark, solidus}
use Rattle.html5reading.specs.EndOfInput.{late_at_end_of, open_at_end_of, told_at_end_of, told_at_raw_end, told_at_doctype_end, raw_end_error, tokens_at_end}
use Rattle.html5reading.specs.Machine.{data_step, less_than_step, opened_here, raw_less_than_step, raw_solidus_step, raw_step}
use Rattle.html5reading.specs.RawText.{begins_mark, begins_switch, is_rcdata, told_after_less_than}
use Rattle.html5reading.specs.Doctype.{keyword_error, with_quirks}
use Rattle.html5reading.specs.Reference.{Found, late_tokens, opened_after, reference}
use Rattle.html5reading.specs.Slice.{tokens_of_late}
use Rattle.html5reading.specs.Reading.{Here, start_after}
use Rattle.html5reading.specs.Start.{Open, Raw, Rules, Start, nothing_open, raw_of}
use Rattle.html5reading.specs.Start.DoctypePlace.{Skipped}
use Rattle.html5reading.specs.Start.RawPlace.{AfterLessThan, InEndName, AfterMark, AfterMarkAndDash, InSwitch}
use Rattle.html5reading.specs.Start.Stand.{InText, InAttribute}
use Rattle.html5reading.specs.Start.Open.{Between, LessThan, LessThanSolidus, InTag, InRaw, InDeclaration, InComment, InBogusComment, InInstruction, InDoctype, InDoctypeKeyword, InCdata, InReference}
use Rattle.html5reading.proofs.ReadingLemmas.{after-append, after-nil, between-mode}
use Rattle.html5places.specs.Markup.{in_markup}
use Rattle.html5places.specs.Placed.{standard}
use Rattle.html5places.proofs.MarkupSteps.{begun-inside, is_inside, within-inside}
use Rattle.html5places.proofs.MarkupCharacters.{led}
use Rattle.html5places.proofs.MarkupPlaces.{OpenItem, StaysIn, after-cons, start_at}

-- ---- what the end tells within markup

unfoldable pub IsLong : List Told → Type 0
IsLong tokens = 2 ≤ length tokens

pub long : (t u : Told) (rest : List Told) → IsLong (t ∷ u ∷ rest)
unfolding IsLong
long t u rest = omega arith

pub longer : (a b : List Told) → IsLong b → IsLong (a ++ b)
unfolding IsLong
longer a b h = omega (arith, length-append a b)

pub longer_first : (a b : List Told) → IsLong a → IsLong (a ++ b)
unfolding IsLong
longer_first a b h = omega (arith, length-append a b)

-- it tells more than itself
pub inside-long : (rules : Rules) (opened : Open) → is_inside opened ≡ true → IsLong (tokens_at_end rules opened)
unfolding late_at_end_of open_at_end_of told_at_end_of told_at_raw_end told_at_doctype_end raw_end_error
inside-long rules (Between mode) h = absurd (false≢true h)
inside-long rules LessThan h = long _ _ _
inside-long rules LessThanSolidus h = long _ _ _
inside-long rules (InTag place tag) h = long _ _ _
inside-long rules (InRaw (AfterLessThan raw_kind.Rcdata) name) h = long _ _ _
inside-long rules (InRaw (AfterLessThan raw_kind.Rawtext) name) h = long _ _ _
inside-long rules (InRaw (AfterLessThan raw_kind.ScriptData) name) h = long _ _ _
inside-long rules (InRaw (AfterLessThan (raw_kind.ScriptDataEscaped escape_kind.Escaped)) name) h = long _ _ _
inside-long rules (InRaw (AfterLessThan (raw_kind.ScriptDataEscaped escape_kind.DoubleEscaped)) name) h = long _ _ _
inside-long rules (InRaw (InEndName kind letters) name) h = long _ _ _
inside-long rules (InRaw AfterMark name) h = absurd (false≢true h)
inside-long rules (InRaw AfterMarkAndDash name) h = absurd (false≢true h)
inside-long rules (InRaw (InSwitch kind letters) name) h = absurd (false≢true h)
inside-long rules (InDeclaration held) h = long _ _ _
inside-long rules (InComment text) h = long _ _ _
inside-long rules (InBogusComment text) h = long _ _ _
inside-long rules (InInstruction text) h = long _ _ _
inside-long rules (InDoctype Skipped d) h = long _ _ _
inside-long rules (InDoctype place d) h = long _ _ _
inside-long rules (InDoctypeKeyword held d) h = longer (tokens_of_late (keyword_error rules.exact held)) (told_at_end_of rules.exact (InDoctype Skipped (with_quirks d))) (long _ _ _)
inside-long rules (InCdata held) h = absurd (false≢true h)
inside-long rules (InReference (InText mode) held) h = absurd (false≢true h)
inside-long rules (InReference (InAttribute kind tag) held) h =
    let found : Found = reference rules true held None in
    longer (tokens_of_late (late_tokens (InAttribute kind tag) found held)) (told_at_end_of rules.exact (opened_after (InAttribute kind tag) found held)) (long _ _ _)

-- after a `<` no more is open
begun-not_within : (opened : Open) → is_after_less_than opened ≡ true → in_markup opened ≡ false
begun-not_within LessThan h = refl
begun-not_within (InRaw (AfterLessThan kind) name) h = refl
begun-not_within (InRaw (InEndName kind letters) name) h = absurd (false≢true h)
begun-not_within (InRaw AfterMark name) h = refl
begun-not_within (InRaw AfterMarkAndDash name) h = refl
begun-not_within (InRaw (InSwitch kind letters) name) h = refl
begun-not_within (Between mode) h = refl
begun-not_within LessThanSolidus h = absurd (false≢true h)
begun-not_within (InTag place tag) h = absurd (false≢true h)
begun-not_within (InDeclaration held) h = absurd (false≢true h)
begun-not_within (InComment text) h = absurd (false≢true h)
begun-not_within (InBogusComment text) h = absurd (false≢true h)
begun-not_within (InInstruction text) h = absurd (false≢true h)
begun-not_within (InDoctype place d) h = absurd (false≢true h)
begun-not_within (InDoctypeKeyword held d) h = absurd (false≢true h)
begun-not_within (InCdata held) h = refl
begun-not_within (InReference stand held) h = absurd (false≢true h)

-- ---- the character after a `<`

-- what both ways of a test have
both : (f : Here Open → Bool) (test : Bool) (p q : Here Open) → f p ≡ false → f q ≡ false → f (if test then p else q) ≡ false
both f true p q g h = g
both f false p q g h = h

module _ (rules : Rules) (line : ℕ) (last : List ℕ) (c : ℕ) where
  abbrev pub opened_by : Here Open → Open
  opened_by h = opened_here standard.step standard.reply rules tt line last c h

  -- text opens no more than a `<`
  data-outside : (before : List Told) → in_markup (opened_by (data_step rules.exact before c)) ≡ false
  unfolding data_step opened_here
  data-outside before =
      both (λ h. in_markup (opened_by h)) (c == less_than) _ _ refl
      (both (λ h. in_markup (opened_by h)) (c == ampersand) _ _ refl (both (λ h. in_markup (opened_by h)) (c == null) _ _ refl refl))

  pub raw-outside : (raw : Raw) (name : List ℕ) (before : List Told) → in_markup (opened_by (raw_step rules.exact raw name before c)) ≡ false
  unfolding raw_step opened_here
  raw-outside raw name before =
      both (λ h. in_markup (opened_by h)) (c == less_than) _ _ refl (both (λ h. in_markup (opened_by h)) (is_rcdata raw && (c == ampersand)) _ _ refl refl)

  -- in Data what begins markup is no character before which `<` stands alone
  pub data-second : in_markup (opened_by (less_than_step rules.exact c)) ≡ true → is_lone_before c ≡ false
  unfolding less_than_step
  data-second h = at (is_letter c) (c == solidus) (c == exclamation_mark) (c == question_mark) refl refl refl refl
    where
      at : (l s e q : Bool) → is_letter c ≡ l → (c == solidus) ≡ s → (c == exclamation_mark) ≡ e → (c == question_mark) ≡ q → is_lone_before c ≡ false
      at true s e q i j k m = rw i refl
      at false true e q i j k m = rw (i, j) refl
      at false false true q i j k m = rw (i, j, k) refl
      at false false false true i j k m = rw (i, j, k, m) refl
      at false false false false i j k m = absurd (false≢true (sym (data-outside _) ∙ (rw (i, j, k, m) at h)))

  -- in raw text it is `/`, and there is none in double-escaped script data
  pub raw-second : (kind : RawKind) (name : List ℕ) → in_markup (opened_by (raw_less_than_step rules.exact kind name c)) ≡ true → (c ≡ solidus) × (is_double_escaped kind ≡ false)
  unfolding raw_less_than_step raw_solidus_step opened_here
  raw-second kind name h = at (c == solidus) refl kind h
    where
      at : (s : Bool) → (c == solidus) ≡ s → (k : RawKind) → in_markup (opened_by (raw_less_than_step rules.exact k name c)) ≡ true → (c ≡ solidus) × (is_double_escaped k ≡ false)
      at true e raw_kind.Rcdata g = (eqb-true c solidus e, refl)
      at true e raw_kind.Rawtext g = (eqb-true c solidus e, refl)
      at true e raw_kind.ScriptData g = (eqb-true c solidus e, refl)
      at true e (raw_kind.ScriptDataEscaped escape_kind.Escaped) g = (eqb-true c solidus e, refl)
      at true e (raw_kind.ScriptDataEscaped escape_kind.DoubleEscaped) g = absurd (false≢true (rw e at g))
      at false e k g =
          absurd (false≢true
          (sym (both (λ i. in_markup (opened_by i)) (begins_mark k c) _ _ refl (both (λ i. in_markup (opened_by i)) (begins_switch k c) _ _ refl (raw-outside (raw_of k) name (told_after_less_than k))))
          ∙ (rw e at g)))

-- ---- a text in all of which markup is open, from its `<` on

module _ (rules : Rules) where
  -- after each part of the text X but the first character, which is a `<`, markup is open that a `<` began. Where X is closed, the
  -- last character ends it, and nothing is open.
  pub record Spans (P : Start) (closed : Bool) (X : List ℕ) : Type 0 where
    pub second : ℕ
    pub more : List ℕ
    pub parts : X ≡ less_than ∷ second ∷ more
    pub begins : is_after_less_than (led rules P less_than).opened ≡ true
    pub first_within : in_markup (start_after standard rules P tt (less_than ∷ second ∷ [])).opened ≡ true
    pub within : (a z : List ℕ) → more ≡ a ++ z → (z ≡ [] → closed ≡ false) → in_markup (start_after standard rules P tt (less_than ∷ second ∷ a)).opened ≡ true
    pub closes : closed ≡ true → nothing_open (start_after standard rules P tt X).opened ≡ true
    pub ends : closed ≡ true → tokens_at_end rules (start_after standard rules P tt X).opened ≡ End ∷ []

  stays-prefix : (Q : Start) (d : ℕ) (a z : List ℕ) → StaysIn rules Q (d ∷ a ++ z) → in_markup (start_after standard rules Q tt (d ∷ a)).opened ≡ true
  unfolding StaysIn
  stays-prefix Q d [] z stays = stays.0
  stays-prefix Q d (e ∷ a) z stays =
      ap (λ (R : Start). in_markup R.opened) (after-cons rules Q d (e ∷ a)) ∙ stays-prefix (led rules Q d) e a z stays.1

  -- the same from the start at the `<`
  stays-from : (P : Start) (d : ℕ) (a z more : List ℕ) → more ≡ a ++ z → StaysIn rules (led rules P less_than) (d ∷ more)
      → in_markup (start_after standard rules P tt (less_than ∷ d ∷ a)).opened ≡ true
  stays-from P d a z more e stays =
      ap (λ (R : Start). in_markup R.opened) (after-cons rules P less_than (d ∷ a))
      ∙ stays-prefix (led rules P less_than) d a z (subst (λ l. StaysIn rules (led rules P less_than) (d ∷ l)) e stays)

  -- the text before the last character
  before-last : (m : List ℕ) (c : ℕ) (a z : List ℕ) → m ++ c ∷ [] ≡ a ++ z → (z ≡ [] → true ≡ false) → (y : List ℕ) × (m ≡ a ++ y)
  before-last m c [] z e some = (m, refl)
  before-last [] c (d ∷ a) z e some = absurd (false≢true (sym (some (none a z (cons_rest e)))))
    where
      none : (a z : List ℕ) → [] ≡ a ++ z → z ≡ []
      none [] z e = sym e
      none (d ∷ a) z e = absurd (nil≢cons e)
  before-last (d ∷ m) c (b ∷ a) z e some =
      let w = before-last m c a z (cons_rest e) some in
      (w.0, ap (λ l. d ∷ l) w.1 ∙ ap (λ x. x ∷ a ++ w.0) (cons_first e))

  module _ (K : Start) where
    -- more than the `<` was read
    some-more : (front : List ℕ) (P : Start) → OpenItem rules K front [] P → in_markup P.opened ≡ true → ⊥
    some-more front P item h =
        let same : led rules (start_at rules K front) less_than ≡ P =
        sym (after-nil standard.step standard.reply standard.foreign rules (led rules (start_at rules K front) less_than) tt) ∙ item.leads in
        false≢true (sym (begun-not_within P.opened (ap (λ (Q : Start). is_after_less_than Q.opened) (sym same) ∙ item.first)) ∙ h)

    -- markup that the end cuts off
    pub spans-open : (front more : List ℕ) (P : Start) → OpenItem rules K front more P → in_markup P.opened ≡ true → Spans (start_at rules K front) false (less_than ∷ more)
    spans-open front [] P item h = absurd (some-more front P item h)
    spans-open front (d ∷ more) P item h = record {
      second = d;
      more = more;
      parts = refl;
      begins = item.first;
      first_within = stays-from (start_at rules K front) d [] more more refl item.stays;
      within = λ a z e some. stays-from (start_at rules K front) d a z more e item.stays;
      closes = λ e. absurd (false≢true e);
      ends = λ e. absurd (false≢true e);
    }

    -- where the item leads
    pub item-leads : (front more : List ℕ) (P : Start) → OpenItem rules K front more P → start_after standard rules (start_at rules K front) tt (less_than ∷ more) ≡ P
    item-leads front more P item = after-cons rules (start_at rules K front) less_than more ∙ item.leads

    pub item-ends : (front more : List ℕ) (c : ℕ) (P : Start) → OpenItem rules K front more P
        → start_after standard rules (start_at rules K front) tt ((less_than ∷ more) ++ c ∷ []) ≡ led rules P c
    item-ends front more c P item =
        after-append standard.step standard.reply standard.foreign rules (start_at rules K front) tt (less_than ∷ more) (c ∷ [])
        ∙ ap (λ (Q : Start). led rules Q c) (item-leads front more P item)

    -- markup that a character ends
    pub spans-closed : (front more : List ℕ) (c : ℕ) (P : Start) → OpenItem rules K front more P → in_markup P.opened ≡ true
        → nothing_open (led rules P c).opened ≡ true → tokens_at_end rules (led rules P c).opened ≡ End ∷ []
        → Spans (start_at rules K front) true ((less_than ∷ more) ++ c ∷ [])
    spans-closed front [] c P item h closes ends = absurd (some-more front P item h)
    spans-closed front (d ∷ more) c P item h closes ends = record {
      second = d;
      more = more ++ c ∷ [];
      parts = refl;
      begins = item.first;
      first_within = stays-from (start_at rules K front) d [] more more refl item.stays;
      within = λ a z e some.
          let w = before-last more c a z e some in
          stays-from (start_at rules K front) d a w.0 more w.1 item.stays;
      closes = λ e. ap (λ (Q : Start). nothing_open Q.opened) (item-ends front (d ∷ more) c P item) ∙ closes;
      ends = λ e. ap (λ (Q : Start). tokens_at_end rules Q.opened) (item-ends front (d ∷ more) c P item) ∙ ends;
    }

  -- after each part of the text markup is open, but where that is the whole of a closed one
  pub inside-at : (P : Start) (closed : Bool) (X : List ℕ) → Spans P closed X → (y : ℕ) (Y Z : List ℕ) → X ≡ (y ∷ Y) ++ Z → (Z ≡ [] → closed ≡ false)
      → is_inside (start_after standard rules P tt (y ∷ Y)).opened ≡ true
  inside-at P closed X spans y [] Z e some =
      let first : less_than ≡ y = cons_first (sym spans.parts ∙ e) in
      subst (λ x. is_inside (start_after standard rules P tt (x ∷ [])).opened ≡ true) first
      (begun-inside (led rules P less_than).opened spans.begins)
  inside-at P closed X spans y (d ∷ a) Z e some =
      let whole : less_than ∷ spans.second ∷ spans.more ≡ y ∷ d ∷ a ++ Z = sym spans.parts ∙ e in
      subst (λ x. is_inside (start_after standard rules P tt (x ∷ d ∷ a)).opened ≡ true) (cons_first whole)
      (subst (λ x. is_inside (start_after standard rules P tt (less_than ∷ x ∷ a)).opened ≡ true) (cons_first (cons_rest whole))
      (within-inside (start_after standard rules P tt (less_than ∷ spans.second ∷ a)).opened (spans.within a Z (cons_rest (cons_rest whole)) some)))

  -- so something is open after each part but the whole
  pub open-within : (P : Start) (closed : Bool) (X : List ℕ) → Spans P closed X → (part other : List ℕ) → X ≡ part ++ other → part ≢ [] → other ≢ []
      → nothing_open (start_after standard rules P tt part).opened ≡ false
  open-within P closed X spans [] other e some more = absurd (some refl)
  open-within P closed X spans (y ∷ Y) other e some more =
      inside-open (start_after standard rules P tt (y ∷ Y)).opened (inside-at P closed X spans y Y other e (λ none. absurd (more none)))
    where
      inside-open : (opened : Open) → is_inside opened ≡ true → nothing_open opened ≡ false
      inside-open opened h =
          false_from_ne_true (nothing_open opened)
          (λ clean. let m = between-mode opened clean in false≢true (ap is_inside (sym m.1) ∙ h))
