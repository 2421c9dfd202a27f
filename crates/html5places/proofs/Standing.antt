-- That each token that is handed on stands between characters of the text, and markup where its item is written.
use Rattle.std.proofs.Common.{◌≡◌, ◌⊎◌, inl, inr, ℕ, ◌+◌, true, false, List, [], ◌∷◌, ◌++◌, length, refl, ap, sym, ◌∙◌, subst, ◌≤◌, arith}
use Rattle.std.specs.Prelude.{All, encode_utf8}
use Rattle.std.proofs.lemmas.Bool.{false≢true}
use Rattle.std.proofs.lemmas.List.{append-nil, append_assoc}
use Rattle.std.proofs.lemmas.List.Elements.{All-append, All-cons, All-nil}
use Rattle.html5ever_interface.specs.Sink.{Message, on_line}
use Rattle.html5ever_interface.specs.Token.{Told}
use Rattle.html5ever_interface.specs.Token.Told.{Text, Error, Null, End, Tag, Comment, Instruction, Doctype}
use Rattle.html5feed.specs.Feed.{told_at_end}
use Rattle.html5reading.specs.Characters.{less_than}
use Rattle.html5reading.specs.EndOfInput.{tokens_at_end}
use Rattle.html5reading.specs.NormalisedText.{line_after}
use Rattle.html5reading.specs.Start.{Rules, Start, nothing_open}
use Rattle.html5places.specs.Markup.{ends_run, in_markup}
use Rattle.html5places.specs.Marks.{Marks, Placed, is_markup, marks_after, no_marks, placed_of}
use Rattle.html5places.specs.Placed.{Beginning, all_handed, at_character, at_end, at_first_byte, handed, marks_after_all, marks_of, marks_past, placed_at_end, placed_by, placed_from, placed_tokens, standard, told_at}
use Rattle.html5places.specs.Written.{AreBetween, BeginsAfter, IsCharacterOrEnd, StandsBetween, place_after}
use Rattle.html5places.specs.Written.IsCharacterOrEnd.{AtCharacter, AtEnd}
use Rattle.html5places.proofs.OneCharacter.{end-messages, line-here}
use Rattle.html5places.proofs.ManyCharacters.{to-after, to-after_all}
use Rattle.html5places.proofs.Stepping.{all_handed-append}
use Rattle.html5places.proofs.MarkupSteps.{within-inside}
use Rattle.html5places.proofs.MarkupCharacters.{EndsAt, GoesOnAt, KeepRun, at-character, keep_run-nothing, keep_run-on_line, led, on_line-append, tells}
use Rattle.html5places.proofs.MarkupAtEnd.{EndTells, MarkupAtEnd, TextAtEnd}
use Rattle.html5places.proofs.MarkupAtEnd as ends
use Rattle.html5places.proofs.MarkupPlaces.{Inside, Known, OpenItem, at, begins-first, begun-all, from-all, from-one, known-next, known-of, place_after-append, place_after-more, text-all, text-kept, told-more}

-- how markup is written is given by `W`, for the text before an item, the item, the text after it, and the token with its line
-- and the text `base` stands before what is read from K on
module _ (rules : Rules) (K : Start) (base : List ℕ) (W : List ℕ → List ℕ → List ℕ → Told → ℕ → Type 0) where
  -- a token stands between characters of the text, and markup as `W` says
  pub record StandsBy (whole : List ℕ) (p : Placed) : Type 0 where
    pub stands : StandsBetween whole p
    pub written : is_markup p.token ≡ true → W (stands.before ++ stands.run) stands.item stands.rest p.token p.line

  -- markup is written so where a character ends it
  abbrev pub ByCharacter : Type 0
  ByCharacter = (front more : List ℕ) (c : ℕ) (rest : List ℕ) (P : Start) (M : List Message) (m : Message) → OpenItem rules K front more P → in_markup P.opened ≡ true
      → P ≡ at rules K (front ++ less_than ∷ more) → nothing_open (led rules P c).opened ≡ true → tokens_at_end rules (led rules P c).opened ≡ End ∷ []
      → tells rules P c ≡ M ++ m ∷ [] → is_markup m.token ≡ true
      → W (base ++ front) ((less_than ∷ more) ++ c ∷ []) rest m.token m.line

  -- and where the end cuts it off
  abbrev pub ByEnd : Type 0
  ByEnd = (front more : List ℕ) (P : Start) (errors : List Told) (token : Told) → OpenItem rules K front more P → in_markup P.opened ≡ true
      → P ≡ at rules K (front ++ less_than ∷ more) → tokens_at_end rules P.opened ≡ errors ++ token ∷ End ∷ [] → is_markup token ≡ true
      → W (base ++ front) (less_than ∷ more) [] token (line_after P.input [])

  -- ---- what a place of the text tells: `here` is its character, or none at the end

  module _ (whole before here rest : List ℕ) (parts : whole ≡ before ++ (here ++ rest)) (place : IsCharacterOrEnd here rest) where
    -- the marks stand there
    pub record AreAt (s : Marks) : Type 0 where
      pub from : s.from ≡ place_after before
      pub to : s.to ≡ place_after (before ++ here)

    at-one : (s : Marks) (told : Told) → AreAt s → AreAt (marks_after s told)
    at-one s told at = record { from = from-one s told ∙ at.from; to = to-after s told ∙ at.to }

    at-all : (s : Marks) (M : List Message) → AreAt s → AreAt (marks_after_all s M)
    at-all s M at = record { from = from-all s M ∙ at.from; to = to-after_all s M ∙ at.to }

    -- an error stands there
    error-stands : (s : Marks) (message : List ℕ) (line : ℕ) → AreAt s → StandsBy whole (placed_of s (Error message) line)
    error-stands s message line at = record {
      stands = record {
        before = before;
        run = [];
        item = here;
        rest = rest;
        places = record { parts = parts; text = at.from; begin = at.from ∙ ap place_after (sym (append-nil before)); end = at.to };
        other = λ h. place;
      };
      written = λ h. absurd (false≢true h);
    }

    one-of : (p : Placed) → StandsBy whole p → All (StandsBy whole) (p ∷ [])
    one-of p stands = All-cons (StandsBy whole) p [] stands (All-nil (StandsBy whole))

    keeping-one : (s : Marks) (told : Told) (line : ℕ) → AreAt s → ends_run told ≡ false → All (StandsBy whole) (handed s told line)
    keeping-one s (Text text) line at h = All-nil (StandsBy whole)
    keeping-one s (Error message) line at h = one-of (placed_of s (Error message) line) (error-stands s message line at)
    keeping-one s Null line at h = absurd (false≢true (sym h))
    keeping-one s End line at h = absurd (false≢true (sym h))
    keeping-one s (Tag tag) line at h = absurd (false≢true (sym h))
    keeping-one s (Comment text) line at h = absurd (false≢true (sym h))
    keeping-one s (Instruction text) line at h = absurd (false≢true (sym h))
    keeping-one s (Doctype doctype) line at h = absurd (false≢true (sym h))

    -- what ends no run stands there
    keeping-all : (s : Marks) (M : List Message) → AreAt s → KeepRun M → All (StandsBy whole) (all_handed s M)
    unfolding all_handed KeepRun
    keeping-all s [] at keeps = All-nil (StandsBy whole)
    keeping-all s (m ∷ M) at keeps =
        All-append (StandsBy whole) (handed s m.token m.line) (all_handed (marks_after s m.token) M)
        (keeping-one s m.token m.line at keeps.0) (keeping-all (marks_after s m.token) M (at-one s m.token at) keeps.1)

    -- where markup is written that ends there
    pub record MarkupHere (s : Marks) (token : Told) (line : ℕ) : Type 0 where
      pub text : List ℕ
      pub run : List ℕ
      pub more : List ℕ
      pub front : before ≡ text ++ (run ++ less_than ∷ more)
      pub text_place : s.text ≡ place_after text
      pub begun : s.begun ≡ place_after (text ++ run)
      pub written : W (text ++ run) ((less_than ∷ more) ++ here) rest token line

    other-stands : (s : Marks) (told : Told) (line : ℕ) (text run : List ℕ) → before ≡ text ++ run → s.text ≡ place_after text → AreAt s
        → (p : Placed) → p.token ≡ told → p.places ≡ record { text = s.text; begin = s.from; end = s.to } → is_markup told ≡ false → StandsBy whole p
    other-stands s told line text run front text_place at p same places plain = record {
      stands = record {
        before = text;
        run = run;
        item = here;
        rest = rest;
        places = subst (AreBetween whole text run here rest) (sym places) (record {
          parts = parts ∙ ap (λ l. l ++ (here ++ rest)) front ∙ append_assoc text run (here ++ rest);
          text = text_place;
          begin = at.from ∙ ap place_after front;
          end = at.to ∙ ap (λ l. place_after (l ++ here)) front ∙ ap place_after (append_assoc text run here);
        });
        other = λ h. place;
      };
      written = λ h. absurd (false≢true (sym (ap is_markup same ∙ plain) ∙ h));
    }

    markup-stands : (s : Marks) (token : Told) (line : ℕ) → AreAt s → is_markup token ≡ true → MarkupHere s token line
        → StandsBy whole (record { run = s.run; token = token; line = line; places = record { text = s.text; begin = s.begun; end = s.to } })
    markup-stands s token line at is markup =
        let item : List ℕ = less_than ∷ markup.more in
        let front : before ≡ (markup.text ++ markup.run) ++ item = markup.front ∙ sym (append_assoc markup.text markup.run item) in
        let ended : before ++ here ≡ markup.text ++ (markup.run ++ (item ++ here)) =
        ap (λ l. l ++ here) markup.front
        ∙ append_assoc markup.text (markup.run ++ item) here
        ∙ ap (λ l. markup.text ++ l) (append_assoc markup.run item here) in
        record {
          stands = record {
            before = markup.text;
            run = markup.run;
            item = item ++ here;
            rest = rest;
            places = record {
              parts =
                  parts
                  ∙ sym (append_assoc before here rest)
                  ∙ ap (λ l. l ++ rest) ended
                  ∙ append_assoc markup.text (markup.run ++ (item ++ here)) rest
                  ∙ ap (λ l. markup.text ++ l) (append_assoc markup.run (item ++ here) rest);
              text = markup.text_place;
              begin = markup.begun;
              end = at.to ∙ ap place_after ended;
            };
            other = λ h. absurd (false≢true (sym h ∙ is));
          };
          written = λ h. markup.written;
        }

    -- the last message there
    last-one : (s : Marks) (told : Told) (line : ℕ) (text run : List ℕ) → before ≡ text ++ run → s.text ≡ place_after text → AreAt s
        → (is_markup told ≡ true → MarkupHere s told line) → All (StandsBy whole) (handed s told line)
    last-one s (Text text') line text run front text_place at markup = All-nil (StandsBy whole)
    last-one s (Error message) line text run front text_place at markup = one-of (placed_of s (Error message) line) (error-stands s message line at)
    last-one s Null line text run front text_place at markup =
        one-of (placed_of s Null line) (other-stands s Null line text run front text_place at (placed_of s Null line) refl refl refl)
    last-one s End line text run front text_place at markup =
        one-of (placed_of s End line) (other-stands s End line text run front text_place at (placed_of s End line) refl refl refl)
    last-one s (Tag tag) line text run front text_place at markup = one-of (placed_of s (Tag tag) line) (markup-stands s (Tag tag) line at refl (markup refl))
    last-one s (Comment text') line text run front text_place at markup = one-of (placed_of s (Comment text') line) (markup-stands s (Comment text') line at refl (markup refl))
    last-one s (Instruction text') line text run front text_place at markup = one-of (placed_of s (Instruction text') line) (markup-stands s (Instruction text') line at refl (markup refl))
    last-one s (Doctype doctype) line text run front text_place at markup = one-of (placed_of s (Doctype doctype) line) (markup-stands s (Doctype doctype) line at refl (markup refl))

    -- all messages there, where the last may end a run
    last-all : (s : Marks) (M : List Message) (m : Message) (text run : List ℕ) → before ≡ text ++ run → s.text ≡ place_after text → AreAt s → KeepRun M
        → ((t : Marks) → t.text ≡ s.text → t.begun ≡ s.begun → is_markup m.token ≡ true → MarkupHere t m.token m.line)
        → All (StandsBy whole) (all_handed s (M ++ m ∷ []))
    unfolding all_handed
    last-all s M m text run front text_place at keeps markup =
        let t : Marks = marks_after_all s M in
        let same : t.text ≡ s.text = text-kept s M keeps in
        subst (All (StandsBy whole)) (sym (all_handed-append s M (m ∷ [])))
        (All-append (StandsBy whole) (all_handed s M) (handed t m.token m.line ++ [])
        (keeping-all s M at keeps)
        (subst (All (StandsBy whole)) (sym (append-nil (handed t m.token m.line)))
        (last-one t m.token m.line text run front (same ∙ text_place) (at-all s M at) (markup t same (begun-all s M)))))

  -- ---- a character, and the end

  module _ (by_character : ByCharacter) (by_end : ByEnd) where
    module _ (s : Marks) (before : List ℕ) (known : Known rules K base s before) where
      leads-there : (inside : Inside rules K base s before) → at rules K before ≡ at rules K (inside.front ++ less_than ∷ inside.more)
      leads-there inside = ap (at rules K) inside.parts

      -- the text before the open item
      whole-front : (inside : Inside rules K base s before) → base ++ before ≡ inside.text ++ (inside.run ++ less_than ∷ inside.more)
      whole-front inside =
          ap (λ l. base ++ l) inside.parts
          ∙ sym (append_assoc base inside.front (less_than ∷ inside.more))
          ∙ ap (λ l. l ++ less_than ∷ inside.more) inside.runs
          ∙ append_assoc inside.text inside.run (less_than ∷ inside.more)

      character-stands : (whole : List ℕ) (c : ℕ) (rest : List ℕ) → whole ≡ (base ++ before) ++ c ∷ rest → All (StandsBy whole) (all_handed (at_character s c) (told_at rules K before c))
      character-stands whole c rest parts =
          subst (λ M. All (StandsBy whole) (all_handed here M)) (sym (told-more rules K before c)) (by (at-character rules (at rules K before) c known.ready))
        where
          here : Marks
          here = at_character s c

          there : AreAt whole (base ++ before) (c ∷ []) rest parts (AtCharacter c rest) (at_character s c)
          there = record { from = known.to; to = ap (λ n. n + length (encode_utf8 c)) known.to ∙ sym (place_after-more (base ++ before) c) }

          by : GoesOnAt rules (at rules K before) c ⊎ EndsAt rules (at rules K before) c → All (StandsBy whole) (all_handed here (tells rules (at rules K before) c))
          by (inl goes) = keeping-all whole (base ++ before) (c ∷ []) rest parts (AtCharacter c rest) here (tells rules (at rules K before) c) there goes.keeps
          by (inr ends) =
              subst (λ M. All (StandsBy whole) (all_handed here M)) (sym ends.parts)
              (last-all whole (base ++ before) (c ∷ []) rest parts (AtCharacter c rest) here ends.before ends.message known.text known.run known.parts known.text_place there ends.keeps
              (λ t same_text same_begun h.
              let w = ends.markup h in
              let inside : Inside rules K base s before = known.inside (within-inside (at rules K before).opened w.0) in
              record {
                text = inside.text;
                run = inside.run;
                more = inside.more;
                front = whole-front inside;
                text_place = same_text ∙ inside.text_place;
                begun = same_begun ∙ inside.begun;
                written =
                    subst (λ l. W l ((less_than ∷ inside.more) ++ c ∷ []) rest ends.message.token ends.message.line) inside.runs
                    (by_character inside.front inside.more c rest (at rules K before) ends.before ends.message inside.opens w.0 (leads-there inside) w.1 w.2 ends.parts h);
              }))

      end-stands : (whole : List ℕ) → whole ≡ base ++ before → All (StandsBy whole) (all_handed (at_end s) (told_at_end standard rules K tt before))
      end-stands whole same =
          subst (λ M. All (StandsBy whole) (all_handed here M))
          (sym (end-messages rules K before ∙ ap (λ line. on_line line (tokens_at_end rules (at rules K before).opened)) (sym (line-here K rules before))))
          (by (ends.at_end rules (at rules K before).opened))
        where
          here : Marks
          here = at_end s

          line : ℕ
          line = line_after (at rules K before).input []

          parts : whole ≡ (base ++ before) ++ ([] ++ [])
          parts = same ∙ sym (append-nil (base ++ before))

          there : AreAt whole (base ++ before) [] [] parts AtEnd (at_end s)
          there = record { from = known.to; to = known.to ∙ ap place_after (sym (append-nil (base ++ before))) }

          at_line : Told → Message
          at_line token = record { token = token; line = line }

          -- the end itself, which stands after what it cuts off
          only-end : (t : Marks) (text run : List ℕ) → base ++ before ≡ text ++ run → t.text ≡ place_after text → AreAt whole (base ++ before) [] [] parts AtEnd t
              → All (StandsBy whole) (all_handed t (at_line End ∷ []))
          only-end t text run front text_place at =
              last-all whole (base ++ before) [] [] parts AtEnd t [] (at_line End) text run front text_place at keep_run-nothing (λ u same_text same_begun h. absurd (false≢true h))

          by : EndTells (in_markup (at rules K before).opened) (tokens_at_end rules (at rules K before).opened)
              → All (StandsBy whole) (all_handed here (on_line line (tokens_at_end rules (at rules K before).opened)))
          by (inl text) =
              subst (λ tokens. All (StandsBy whole) (all_handed here (on_line line tokens))) (sym text.parts)
              (subst (λ M. All (StandsBy whole) (all_handed here M)) (sym (on_line-append line text.texts (End ∷ [])))
              (last-all whole (base ++ before) [] [] parts AtEnd here (on_line line text.texts) (at_line End) known.text known.run known.parts known.text_place there (keep_run-on_line line text.texts text.keeps)
              (λ t same_text same_begun h. absurd (false≢true h))))
          by (inr markup) =
              let M : List Message = on_line line markup.errors in
              let cut : List Message = M ++ at_line markup.token ∷ [] in
              subst (λ tokens. All (StandsBy whole) (all_handed here (on_line line tokens))) (sym markup.parts)
              (subst (λ N. All (StandsBy whole) (all_handed here N)) (append_assoc M (at_line markup.token ∷ []) (at_line End ∷ []) ∙ sym (on_line-append line markup.errors (markup.token ∷ End ∷ [])))
              (subst (All (StandsBy whole)) (sym (all_handed-append here cut (at_line End ∷ [])))
              (All-append (StandsBy whole) (all_handed here cut) (all_handed (marks_after_all here cut) (at_line End ∷ []))
              (last-all whole (base ++ before) [] [] parts AtEnd here M (at_line markup.token) known.text known.run known.parts known.text_place there (keep_run-on_line line markup.errors markup.keeps)
              (λ t same_text same_begun h.
              let inside : Inside rules K base s before = known.inside (within-inside (at rules K before).opened markup.was_within) in
              record {
                text = inside.text;
                run = inside.run;
                more = inside.more;
                front = whole-front inside;
                text_place = same_text ∙ inside.text_place;
                begun = same_begun ∙ inside.begun;
                written =
                    subst (λ item. W (inside.text ++ inside.run) item [] markup.token line) (sym (append-nil (less_than ∷ inside.more)))
                    (subst (λ l. W l (less_than ∷ inside.more) [] markup.token line) inside.runs
                    (by_end inside.front inside.more (at rules K before) markup.errors markup.token inside.opens markup.was_within (leads-there inside) markup.parts h));
              }))
              (after-cut (marks_after_all here cut) (at-all whole (base ++ before) [] [] parts AtEnd here cut there) (text-all here cut)))))
            where
              after-cut : (t : Marks) → AreAt whole (base ++ before) [] [] parts AtEnd t → (t.text ≡ s.text) ⊎ (t.text ≡ s.to) → All (StandsBy whole) (all_handed t (at_line End ∷ []))
              after-cut t at (inl same_text) = only-end t known.text known.run known.parts (same_text ∙ known.text_place) at
              after-cut t at (inr same_to) = only-end t (base ++ before) [] (sym (append-nil (base ++ before))) (same_to ∙ known.to) at

    -- the tokens that the characters of a text tell, whatever follows it
    all-stand_from : (s : Marks) (before : List ℕ) → Known rules K base s before → (whole text rest : List ℕ) → whole ≡ (base ++ before) ++ (text ++ rest)
        → All (StandsBy whole) (placed_from rules K s before text)
    unfolding placed_from
    all-stand_from s before known whole [] rest parts = All-nil (StandsBy whole)
    all-stand_from s before known whole (c ∷ text) rest parts =
        let one : (base ++ before) ++ (c ∷ (text ++ rest)) ≡ (base ++ (before ++ c ∷ [])) ++ (text ++ rest) =
        sym (append_assoc (base ++ before) (c ∷ []) (text ++ rest)) ∙ ap (λ l. l ++ (text ++ rest)) (append_assoc base before (c ∷ [])) in
        All-append (StandsBy whole) (all_handed (at_character s c) (told_at rules K before c)) (placed_from rules K (marks_past rules K s before c) (before ++ c ∷ []) text)
        (character-stands s before known whole c (text ++ rest) parts)
        (all-stand_from (marks_past rules K s before c) (before ++ c ∷ []) (known-next rules K base s before c known) whole text rest (parts ∙ one))

    module _ (s : Marks) (begins : BeginsAfter base (record { start = K; marks = s })) where
      abbrev B : Beginning
      B = record { start = K; marks = s }

      -- the tokens of a text after another one
      pub all-stand_by : (before text : List ℕ) → All (StandsBy (base ++ (before ++ text))) (placed_by rules B before text)
      all-stand_by before text =
          all-stand_from (marks_of rules B before) before (known-of rules K base s begins before) (base ++ (before ++ text)) text []
          (sym (append_assoc base before text) ∙ ap (λ l. (base ++ before) ++ l) (sym (append-nil text)))

      -- and those that the end tells
      pub end-stands_after : (text : List ℕ) → All (StandsBy (base ++ text)) (placed_at_end rules B text)
      end-stands_after text = end-stands (marks_of rules B text) text (known-of rules K base s begins text) (base ++ text) refl

-- ---- from where a reading begins

-- a token stands between characters, whatever is said of markup
abbrev Anywhere : List ℕ → List ℕ → List ℕ → Told → ℕ → Type 0
Anywhere front item rest token line = Unit {0}

module _ (rules : Rules) (K : Start) (base : List ℕ) (s : Marks) (begins : BeginsAfter base (record { start = K; marks = s })) where
  between-stands : (whole : List ℕ) (p : Placed) → StandsBy rules K base Anywhere whole p → StandsBetween whole p
  between-stands whole p by = by.stands

  -- those of a piece, between the characters of the text so far
  pub piece-between : (before text : List ℕ) → All (StandsBetween (base ++ (before ++ text))) (placed_by rules (record { start = K; marks = s }) before text)
  piece-between before text k d lt =
      between-stands (base ++ (before ++ text)) _
      (all-stand_by rules K base Anywhere (λ front more c rest P M m opens within there closes ends told markup. tt) (λ front more P errors token opens within there told markup. tt) s begins before text k d lt)

  pub end-between : (text : List ℕ) → All (StandsBetween (base ++ text)) (placed_at_end rules (record { start = K; marks = s }) text)
  end-between text k d lt =
      between-stands (base ++ text) _
      (end-stands_after rules K base Anywhere (λ front more c rest P M m opens within there closes ends told markup. tt) (λ front more P errors token opens within there told markup. tt) s begins text k d lt)

-- ---- from the first byte on

module _ (rules : Rules) (K : Start) (W : List ℕ → List ℕ → List ℕ → Told → ℕ → Type 0) (by_character : ByCharacter rules K [] W) (by_end : ByEnd rules K [] W)
    (clean : nothing_open K.opened ≡ true) where
  -- all tokens of a text
  pub all-stand : (text : List ℕ) → All (StandsBy rules K [] W text) (placed_tokens rules K text)
  all-stand text =
      All-append (StandsBy rules K [] W text) (placed_by rules (at_first_byte K) [] text) (placed_at_end rules (at_first_byte K) text)
      (all-stand_by rules K [] W by_character by_end no_marks (begins-first K clean) [] text)
      (end-stands_after rules K [] W by_character by_end no_marks (begins-first K clean) text)

pub all-between : (rules : Rules) (K : Start) (text : List ℕ) → nothing_open K.opened ≡ true → All (StandsBetween text) (placed_tokens rules K text)
all-between rules K text clean =
    All-append (StandsBetween text) (placed_by rules (at_first_byte K) [] text) (placed_at_end rules (at_first_byte K) text)
    (piece-between rules K [] no_marks (begins-first K clean) [] text)
    (end-between rules K [] no_marks (begins-first K clean) text)

-- a token that stands between characters ends within the text
pub ends-within : (whole : List ℕ) (p : Placed) → StandsBetween whole p → p.places.end ≤ place_after whole
ends-within whole p stands =
    let parts : whole ≡ (stands.before ++ (stands.run ++ stands.item)) ++ stands.rest =
    stands.places.parts
    ∙ ap (λ l. stands.before ++ l) (sym (append_assoc stands.run stands.item stands.rest))
    ∙ sym (append_assoc stands.before (stands.run ++ stands.item) stands.rest) in
    let total : place_after whole ≡ place_after (stands.before ++ (stands.run ++ stands.item)) + place_after stands.rest =
    ap place_after parts ∙ place_after-append (stands.before ++ (stands.run ++ stands.item)) stands.rest in
    let end = stands.places.end in
    omega (arith, total, end)
