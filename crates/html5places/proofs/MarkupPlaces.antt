-- Where each token of a text stands: between characters of the text, and markup from its `<` on.
use Rattle.std.proofs.Common.{◌≡◌, ◌⊎◌, inl, inr, ℕ, ◌+◌, Bool, true, false, List, [], ◌∷◌, ◌++◌, length, length-append, refl, ap, sym, ◌∙◌, subst}
use Rattle.std.specs.Prelude.{encode_utf8, encode_utf8_all}
use Rattle.std.proofs.lemmas.Bool.{false≢true}
use Rattle.std.proofs.lemmas.List.{append-nil, append_assoc}
use Rattle.std.proofs.lemmas.Str.{encodes-append}
use Rattle.html5ever_interface.specs.Sink.{Message}
use Rattle.html5ever_interface.specs.Token.{Told}
use Rattle.html5ever_interface.specs.Token.Told.{Text, Error, Null, End, Tag, Comment, Instruction, Doctype}
use Rattle.html5feed.specs.Beginning.{is_after_less_than}
use Rattle.html5feed.proofs.Pauses.{told_beyond-after}
use Rattle.html5reading.specs.Characters.{less_than}
use Rattle.html5reading.specs.Reading.{start_after}
use Rattle.html5reading.specs.Start.{Open, Rules, Start, nothing_open}
use Rattle.html5reading.proofs.ReadingLemmas.{after-append, after-nil, between-mode}
use Rattle.html5places.specs.Markup.{ends_run, in_markup, start_at_less_than}
use Rattle.html5places.specs.Marks.{Marks, marks_after}
use Rattle.html5places.specs.Placed.{Beginning, at_character, at_first_byte, begun_where, marks_after_all, marks_from, marks_of, marks_past, standard, told_at}
use Rattle.html5places.specs.Readers.{Reading, StandsAfter}
use Rattle.html5feed.specs.Starting.{in_state}
use Rattle.html5ever_interface.specs.declared.states.State.{State}
use Rattle.html5places.specs.Written.{BeginsAfter, place_after}
use Rattle.html5places.proofs.ManyCharacters.{to-after, to-after_all}
use Rattle.html5places.proofs.MarkupSteps.{inside-within, is_inside, outside-not_begun}
use Rattle.html5places.proofs.MarkupCharacters.{EndsAt, GoesOnAt, KeepRun, Ready, at-character, led, ready-after, tells}

-- ---- places

pub place_after-append : (a b : List ℕ) → place_after (a ++ b) ≡ place_after a + place_after b
place_after-append a b = ap length (encodes-append a b) ∙ length-append (encode_utf8_all a) (encode_utf8_all b)

place_after-one : (c : ℕ) → place_after (c ∷ []) ≡ length (encode_utf8 c)
place_after-one c = ap length (append-nil (encode_utf8 c))

pub place_after-more : (a : List ℕ) (c : ℕ) → place_after (a ++ c ∷ []) ≡ place_after a + length (encode_utf8 c)
place_after-more a c = place_after-append a (c ∷ []) ∙ ap (λ n. place_after a + n) (place_after-one c)

-- ---- marks after some messages

text-one : (s : Marks) (told : Told) → ((marks_after s told).text ≡ s.text) ⊎ ((marks_after s told).text ≡ s.to)
text-one s (Text text) = inl refl
text-one s (Error message) = inl refl
text-one s other = inr refl

begun-one : (s : Marks) (told : Told) → (marks_after s told).begun ≡ s.begun
begun-one s (Text text) = refl
begun-one s (Error message) = refl
begun-one s other = refl

pub from-one : (s : Marks) (told : Told) → (marks_after s told).from ≡ s.from
from-one s (Text text) = refl
from-one s (Error message) = refl
from-one s other = refl

pub begun-all : (s : Marks) (M : List Message) → (marks_after_all s M).begun ≡ s.begun
unfolding marks_after_all
begun-all s [] = refl
begun-all s (m ∷ M) = begun-all (marks_after s m.token) M ∙ begun-one s m.token

pub from-all : (s : Marks) (M : List Message) → (marks_after_all s M).from ≡ s.from
unfolding marks_after_all
from-all s [] = refl
from-all s (m ∷ M) = from-all (marks_after s m.token) M ∙ from-one s m.token

-- the run begins where it began, or after the last character
pub text-all : (s : Marks) (M : List Message) → ((marks_after_all s M).text ≡ s.text) ⊎ ((marks_after_all s M).text ≡ s.to)
unfolding marks_after_all
text-all s [] = inl refl
text-all s (m ∷ M) = later (text-one s m.token) (text-all (marks_after s m.token) M)
  where
    later : {t : ℕ} → ((marks_after s m.token).text ≡ s.text) ⊎ ((marks_after s m.token).text ≡ s.to) → (t ≡ (marks_after s m.token).text) ⊎ (t ≡ (marks_after s m.token).to)
        → (t ≡ s.text) ⊎ (t ≡ s.to)
    later (inl e) (inl f) = inl (f ∙ e)
    later (inr e) (inl f) = inr (f ∙ e)
    later e (inr f) = inr (f ∙ to-after s m.token)

text-kept_one : (s : Marks) (told : Told) → ends_run told ≡ false → (marks_after s told).text ≡ s.text
text-kept_one s (Text text) h = refl
text-kept_one s (Error message) h = refl
text-kept_one s Null h = absurd (false≢true (sym h))
text-kept_one s End h = absurd (false≢true (sym h))
text-kept_one s (Tag tag) h = absurd (false≢true (sym h))
text-kept_one s (Comment text) h = absurd (false≢true (sym h))
text-kept_one s (Instruction text) h = absurd (false≢true (sym h))
text-kept_one s (Doctype doctype) h = absurd (false≢true (sym h))

pub text-kept : (s : Marks) (M : List Message) → KeepRun M → (marks_after_all s M).text ≡ s.text
unfolding marks_after_all KeepRun
text-kept s [] keeps = refl
text-kept s (m ∷ M) keeps = text-kept (marks_after s m.token) M keeps.1 ∙ text-kept_one s m.token keeps.0

-- ---- markup that is open

module _ (rules : Rules) where
  -- after each character of the text markup is open
  unfoldable pub StaysIn : Start → List ℕ → Type 0
  StaysIn P [] = Unit {0}
  StaysIn P (c ∷ text) = (in_markup (led rules P c).opened ≡ true) × StaysIn (led rules P c) text

  pub stays-none : (P : Start) → StaysIn P []
  unfolding StaysIn
  stays-none P = tt

  pub after-cons : (P : Start) (c : ℕ) (text : List ℕ) → start_after standard rules P tt (c ∷ text) ≡ start_after standard rules (led rules P c) tt text
  after-cons P c text = after-append standard.step standard.reply standard.foreign rules P tt (c ∷ []) text

  stays-more : (P : Start) (text : List ℕ) (c : ℕ) → StaysIn P text → in_markup (led rules (start_after standard rules P tt text) c).opened ≡ true → StaysIn P (text ++ c ∷ [])
  unfolding StaysIn
  stays-more P [] c stays h = (ap (λ (Q : Start). in_markup (led rules Q c).opened) (sym (after-nil standard.step standard.reply standard.foreign rules P tt)) ∙ h, tt)
  stays-more P (d ∷ text) c stays h =
      (stays.0, stays-more (led rules P d) text c stays.1 (ap (λ (Q : Start). in_markup (led rules Q c).opened) (sym (after-cons P d text)) ∙ h))

  module _ (K : Start) where
    -- where the text before leads, and the start at a `<` after it
    abbrev pub at : List ℕ → Start
    at before = start_after standard rules K tt before

    abbrev pub start_at : List ℕ → Start
    start_at before = start_at_less_than (at before)

    pub at-more : (before : List ℕ) (c : ℕ) → at (before ++ c ∷ []) ≡ led rules (at before) c
    at-more before c = after-append standard.step standard.reply standard.foreign rules K tt before (c ∷ [])

    pub told-more : (before : List ℕ) (c : ℕ) → told_at rules K before c ≡ tells rules (at before) c
    told-more before c = told_beyond-after standard rules K tt before (c ∷ [])

    -- after the text `front`, a `<` begins markup, which `more` leaves open, and that leads to P
    pub record OpenItem (front more : List ℕ) (P : Start) : Type 0 where
      pub first : is_after_less_than (led rules (start_at front) less_than).opened ≡ true
      pub stays : StaysIn (led rules (start_at front) less_than) more
      pub leads : start_after standard rules (led rules (start_at front) less_than) tt more ≡ P

    -- the text `base` stands before what is read from K on
    module _ (base : List ℕ) where
      -- markup is open after `before`: where the run before it begins, and where its `<` stands after `front`
      pub record Inside (s : Marks) (before : List ℕ) : Type 0 where
        pub text : List ℕ
        pub run : List ℕ
        pub front : List ℕ
        pub more : List ℕ
        pub runs : base ++ front ≡ text ++ run
        pub parts : before ≡ front ++ less_than ∷ more
        pub text_place : s.text ≡ place_after text
        pub begun : s.begun ≡ place_after (text ++ run)
        pub opens : OpenItem front more (at before)

      -- what is known of the marks after `before`
      pub record Known (s : Marks) (before : List ℕ) : Type 0 where
        pub to : s.to ≡ place_after (base ++ before)
        pub text : List ℕ
        pub run : List ℕ
        pub parts : base ++ before ≡ text ++ run
        pub text_place : s.text ≡ place_after text
        pub ready : is_after_less_than (at before).opened ≡ true → Ready (at before).input
        pub inside : is_inside (at before).opened ≡ true → Inside s before

      -- an item that begins at the last character
      begins-here : (s : Marks) (text run front : List ℕ) → base ++ front ≡ text ++ run → s.text ≡ place_after text → s.begun ≡ place_after (text ++ run)
          → is_after_less_than (led rules (at front) less_than).opened ≡ true
          → led rules (at front) less_than ≡ led rules (start_at front) less_than
          → Inside s (front ++ less_than ∷ [])
      begins-here s text run front runs text_place begun opened same = record {
        text = text;
        run = run;
        front = front;
        more = [];
        runs = runs;
        parts = refl;
        text_place = text_place;
        begun = begun;
        opens = record {
          first = ap (λ (Q : Start). is_after_less_than Q.opened) (sym same) ∙ opened;
          stays = stays-none (led rules (start_at front) less_than);
          leads = after-nil standard.step standard.reply standard.foreign rules (led rules (start_at front) less_than) tt ∙ sym same ∙ sym (at-more front less_than);
        };
      }

      -- one that was open goes on
      stays-open : (s t : Marks) (before : List ℕ) (c : ℕ) → Inside s before → t.text ≡ s.text → t.begun ≡ s.begun → in_markup (led rules (at before) c).opened ≡ true
          → Inside t (before ++ c ∷ [])
      stays-open s t before c inside same_text same_begun opened =
          let first : Start = led rules (start_at inside.front) less_than in
          record {
            text = inside.text;
            run = inside.run;
            front = inside.front;
            more = inside.more ++ c ∷ [];
            runs = inside.runs;
            parts = ap (λ l. l ++ c ∷ []) inside.parts ∙ append_assoc inside.front (less_than ∷ inside.more) (c ∷ []);
            text_place = same_text ∙ inside.text_place;
            begun = same_begun ∙ inside.begun;
            opens = record {
              first = inside.opens.first;
              stays = stays-more first inside.more c inside.opens.stays (ap (λ (Q : Start). in_markup (led rules Q c).opened) inside.opens.leads ∙ opened);
              leads =
                  after-append standard.step standard.reply standard.foreign rules first tt inside.more (c ∷ [])
                  ∙ ap (λ (Q : Start). led rules Q c) inside.opens.leads
                  ∙ sym (at-more before c);
            };
          }

      -- ---- one character further

      -- no markup is open
      nothing-inside : (t : Marks) (text : List ℕ) → is_inside (at text).opened ≡ false → is_inside (at text).opened ≡ true → Inside t text
      nothing-inside t text outside h = absurd (false≢true (sym outside ∙ h))

      -- the text with one character more
      one-more : (before : List ℕ) (c : ℕ) → base ++ (before ++ c ∷ []) ≡ (base ++ before) ++ c ∷ []
      one-more before c = sym (append_assoc base before (c ∷ []))

      place-more : (before : List ℕ) (c : ℕ) → place_after (base ++ (before ++ c ∷ [])) ≡ place_after (base ++ before) + length (encode_utf8 c)
      place-more before c = ap place_after (one-more before c) ∙ place_after-more (base ++ before) c

      -- the run begins after some prefix of the text
      run-past : (s t : Marks) (before : List ℕ) (c : ℕ) → Known s before → (t.text ≡ s.text) ⊎ (t.text ≡ s.to + length (encode_utf8 c))
          → (text : List ℕ) × (run : List ℕ) × (base ++ (before ++ c ∷ []) ≡ text ++ run) × (t.text ≡ place_after text)
      run-past s t before c known (inl same) = (
        known.text,
        known.run ++ c ∷ [],
        one-more before c ∙ ap (λ l. l ++ c ∷ []) known.parts ∙ append_assoc known.text known.run (c ∷ []),
        same ∙ known.text_place,
      )
      run-past s t before c known (inr here) = (
        base ++ (before ++ c ∷ []),
        [],
        sym (append-nil (base ++ (before ++ c ∷ []))),
        here ∙ ap (λ n. n + length (encode_utf8 c)) known.to ∙ sym (place-more before c),
      )

      -- the marks after a character, by whether it is a `<` that may begin markup
      module _ (s : Marks) (before : List ℕ) (c : ℕ) (known : Known s before) where
        abbrev told_here : Marks
        told_here = marks_after_all (at_character s c) (told_at rules K before c)

        abbrev past : Bool → Marks
        past b = begun_where b told_here

        past-to : (b : Bool) → (past b).to ≡ s.to + length (encode_utf8 c)
        past-to true = to-after_all (at_character s c) (told_at rules K before c)
        past-to false = to-after_all (at_character s c) (told_at rules K before c)

        past-text : (b : Bool) → (past b).text ≡ told_here.text
        past-text true = refl
        past-text false = refl

        kept-text : KeepRun (tells rules (at before) c) → told_here.text ≡ s.text
        kept-text keeps = text-kept (at_character s c) (told_at rules K before c) (subst KeepRun (sym (told-more before c)) keeps)

        ready-next : (b : Bool) → is_after_less_than (at (before ++ c ∷ [])).opened ≡ b → (b ≡ true → (c ≡ less_than) × (led rules (at before) c ≡ led rules (start_at before) less_than))
            → is_after_less_than (at (before ++ c ∷ [])).opened ≡ true → Ready (at (before ++ c ∷ [])).input
        ready-next true e begins h =
            subst (λ (Q : Start). Ready Q.input) (sym (at-more before c ∙ (begins refl).1)) (ready-after rules (start_at before))
        ready-next false e begins h = absurd (false≢true (sym e ∙ h))

        inside-goes : (b : Bool) → is_after_less_than (at (before ++ c ∷ [])).opened ≡ b → GoesOnAt rules (at before) c
            → is_inside (at (before ++ c ∷ [])).opened ≡ true → Inside (past b) (before ++ c ∷ [])
        inside-goes true e goes h =
            let opened : is_after_less_than (led rules (at before) c).opened ≡ true = ap (λ (Q : Start). is_after_less_than Q.opened) (sym (at-more before c)) ∙ e in
            let w = goes.begins opened in
            let same : led rules (at before) less_than ≡ led rules (start_at before) less_than = ap (led rules (at before)) (sym w.0) ∙ w.1 in
            subst (λ l. Inside (past true) l) (ap (λ d. before ++ d ∷ []) (sym w.0))
            (begins-here (past true) known.text known.run before known.parts
            (kept-text goes.keeps ∙ known.text_place)
            (from-all (at_character s c) (told_at rules K before c) ∙ known.to ∙ ap place_after known.parts)
            (ap (λ d. is_after_less_than (led rules (at before) d).opened) (sym w.0) ∙ opened)
            same)
        inside-goes false e goes h =
            let opened : in_markup (led rules (at before) c).opened ≡ true =
            ap (λ (Q : Start). in_markup Q.opened) (sym (at-more before c)) ∙ inside-within (at (before ++ c ∷ [])).opened e h in
            stays-open s (past false) before c (known.inside (goes.within opened)) (kept-text goes.keeps) (begun-all (at_character s c) (told_at rules K before c)) opened

        known-next_by : (b : Bool) → is_after_less_than (at (before ++ c ∷ [])).opened ≡ b → GoesOnAt rules (at before) c ⊎ EndsAt rules (at before) c → Known (past b) (before ++ c ∷ [])
        known-next_by b e step =
            let w = run-past s (past b) before c known (moved (text-all (at_character s c) (told_at rules K before c))) in
            record {
              to = past-to b ∙ ap (λ n. n + length (encode_utf8 c)) known.to ∙ sym (place-more before c);
              text = w.0;
              run = w.1;
              parts = w.2;
              text_place = w.3;
              ready = readies step;
              inside = insides step;
            }
          where
            moved : (told_here.text ≡ s.text) ⊎ (told_here.text ≡ s.to + length (encode_utf8 c)) → ((past b).text ≡ s.text) ⊎ ((past b).text ≡ s.to + length (encode_utf8 c))
            moved (inl f) = inl (past-text b ∙ f)
            moved (inr f) = inr (past-text b ∙ f)

            outside : EndsAt rules (at before) c → is_inside (at (before ++ c ∷ [])).opened ≡ false
            outside ends = ap (λ (Q : Start). is_inside Q.opened) (at-more before c) ∙ ends.outside

            readies : GoesOnAt rules (at before) c ⊎ EndsAt rules (at before) c → is_after_less_than (at (before ++ c ∷ [])).opened ≡ true → Ready (at (before ++ c ∷ [])).input
            readies (inl goes) h =
                ready-next b e (λ t. goes.begins (ap (λ (Q : Start). is_after_less_than Q.opened) (sym (at-more before c)) ∙ e ∙ t)) h
            readies (inr ends) h = absurd (false≢true (sym (outside-not_begun (at (before ++ c ∷ [])).opened (outside ends)) ∙ h))

            insides : GoesOnAt rules (at before) c ⊎ EndsAt rules (at before) c → is_inside (at (before ++ c ∷ [])).opened ≡ true → Inside (past b) (before ++ c ∷ [])
            insides (inl goes) h = inside-goes b e goes h
            insides (inr ends) h = nothing-inside (past b) (before ++ c ∷ []) (outside ends) h

      pub known-next : (s : Marks) (before : List ℕ) (c : ℕ) → Known s before → Known (marks_past rules K s before c) (before ++ c ∷ [])
      known-next s before c known = known-next_by s before c known _ refl (at-character rules (at before) c known.ready)

      pub known-first : (s : Marks) → BeginsAfter base (record { start = K; marks = s }) → Known s []
      known-first s begins =
          let same : at [] ≡ K = after-nil standard.step standard.reply standard.foreign rules K tt in
          record {
            to = begins.to ∙ ap place_after (sym (append-nil base));
            text = begins.text;
            run = begins.run;
            parts = append-nil base ∙ begins.parts;
            text_place = begins.text_place;
            ready = λ h. absurd (false≢true (sym (not-inside K.opened begins.clean).0 ∙ ap (λ (Q : Start). is_after_less_than Q.opened) (sym same) ∙ h));
            inside = λ h. absurd (false≢true (sym (not-inside K.opened begins.clean).1 ∙ ap (λ (Q : Start). is_inside Q.opened) (sym same) ∙ h));
          }
        where
          not-inside : (opened : Open) → nothing_open opened ≡ true → (is_after_less_than opened ≡ false) × (is_inside opened ≡ false)
          not-inside opened h = let m = between-mode opened h in (ap is_after_less_than m.1, ap is_inside m.1)

      -- what is known after a text
      known-after : (s : Marks) (before text : List ℕ) → Known s before → Known (marks_from rules K s before text) (before ++ text)
      unfolding marks_from
      known-after s before [] known = subst (Known s) (sym (append-nil before)) known
      known-after s before (c ∷ text) known =
          let past : Marks = marks_past rules K s before c in
          subst (Known (marks_from rules K past (before ++ c ∷ []) text)) (append_assoc before (c ∷ []) text)
          (known-after past (before ++ c ∷ []) text (known-next s before c known))

      -- the same from where a reading begins
      pub known-of : (s : Marks) → BeginsAfter base (record { start = K; marks = s }) → (before : List ℕ)
          → Known (marks_of rules (record { start = K; marks = s }) before) before
      known-of s begins before = known-after s [] before (known-first s begins)

-- a reading that goes on in another state begins after all that was read
pub begins-in_state : (base : List ℕ) (B : Beginning) (r : Reading) (before : List ℕ) (state : State) → BeginsAfter base B → StandsAfter r B before
    → BeginsAfter (base ++ before) (record { start = in_state r.position state; marks = r.marks })
begins-in_state base B r before state begins there =
    let known : Known r.rules B.start base (marks_of r.rules B before) before = known-of r.rules B.start base B.marks begins before in
    record {
      clean = refl;
      to = ap (λ (m : Marks). m.to) there.marks ∙ known.to;
      text = known.text;
      run = known.run;
      parts = known.parts;
      text_place = ap (λ (m : Marks). m.text) there.marks ∙ known.text_place;
    }

-- one that begins at the first byte begins after no text
pub begins-first : (K : Start) → nothing_open K.opened ≡ true → BeginsAfter [] (at_first_byte K)
begins-first K clean = record { clean = clean; to = refl; text = []; run = []; parts = refl; text_place = refl }
