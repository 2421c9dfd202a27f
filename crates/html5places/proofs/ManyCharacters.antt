-- What a tokenizer does with a text, character after character, and with the end after it.
use Rattle.std.proofs.Common.{◌≡◌, ℕ, ◌+◌, List, [], ◌∷◌, ◌++◌, length, refl, ap, sym, ◌∙◌, subst, arith}
use Rattle.std.specs.Prelude.{Bool, true, false, encode_utf8, encode_utf8_all}
use Rattle.std.proofs.lemmas.List.{append-nil, append_assoc, length-append}
use Rattle.html5ever_interface.specs.Sink.{Message}
use Rattle.html5ever_interface.specs.Token.{Told}
use Rattle.html5ever_interface.specs.Token.Told.{Text, Error}
use Rattle.html5reading.specs.Start.{Rules, Start}
use Rattle.html5places.specs.Marks.{Marks, Placed, marks_after, waits}
use Rattle.html5places.specs.Placed.{Beginning, at_character, begun_where, handed_on, marks_after_all, marks_from, marks_past, placed_by, standard, told_at}
use Rattle.html5places.specs.Written.{place_after}
use Rattle.html5places.specs.Readers.{IsPart, Reading, Reads, StandsAfter, StopsWithin}
use Rattle.html5reading.proofs.ReadingLemmas.{after-nil}
use Rattle.html5places.proofs.Pieces.{marks_of-nil, placed_by-append, placed_by-nil}
use Rattle.html5places.proofs.Stepping.{handed_on-append, part-later}

-- ---- where the last character ends

pub to-after : (s : Marks) (told : Told) → (marks_after s told).to ≡ s.to
to-after s (Text text) = refl
to-after s (Error message) = refl
to-after s other = refl

pub to-after_all : (s : Marks) (M : List Message) → (marks_after_all s M).to ≡ s.to
unfolding marks_after_all
to-after_all s [] = refl
to-after_all s (m ∷ M) = to-after_all (marks_after s m.token) M ∙ to-after s m.token

to-where : (b : Bool) (s : Marks) → (begun_where b s).to ≡ s.to
to-where true s = refl
to-where false s = refl

pub to-past : (rules : Rules) (K : Start) (s : Marks) (before : List ℕ) (c : ℕ) → (marks_past rules K s before c).to ≡ s.to + length (encode_utf8 c)
to-past rules K s before c =
    to-where _ (marks_after_all (at_character s c) (told_at rules K before c)) ∙ to-after_all (at_character s c) (told_at rules K before c)

-- ---- texts

module _ {S : Type 0} (step : S → Placed → S) where
  pub reads-none : (r : Reading) (h : S) → Reads step r r h h []
  unfolding handed_on
  reads-none r h B before there = record {
    stands = subst (StandsAfter r B) (sym (append-nil before)) there;
    handler = sym (ap (handed_on step h) (placed_by-nil r.rules B before));
  }

  -- one text after the other
  pub reads-append : (r0 r q : Reading) (h0 h i : S) (a b : List ℕ) → r.rules ≡ r0.rules → Reads step r0 r h0 h a → Reads step r q h i b
      → Reads step r0 q h0 i (a ++ b)
  reads-append r0 r q h0 h i a b rules first second B before there =
      let one = first B before there in
      let two = second B (before ++ a) one.stands in record {
        stands = subst (StandsAfter q B) (append_assoc before a b) two.stands;
        handler =
            two.handler
            ∙ ap (λ s. handed_on step s (placed_by r.rules B (before ++ a) b)) one.handler
            ∙ ap (λ rs. handed_on step (handed_on step h0 (placed_by r0.rules B before a)) (placed_by rs B (before ++ a) b)) rules
            ∙ sym (handed_on-append step h0 (placed_by r0.rules B before a) (placed_by r0.rules B (before ++ a) b))
            ∙ ap (handed_on step h0) (sym (placed_by-append r0.rules B before a b));
      }

  -- a text of which the first piece was read, and the second stopped
  pub stops-append : (r0 r : Reading) (h0 h i : S) (a b rest : List ℕ) → r.rules ≡ r0.rules → Reads step r0 r h0 h a → StopsWithin step r h i b
      → StopsWithin step r0 h0 i (a ++ (b ++ rest))
  stops-append r0 r h0 h i a b rest rules first stops B before there =
      let one = first B before there in
      let part : IsPart step h (placed_by r0.rules B (before ++ a) b) i =
      subst (λ rs. IsPart step h (placed_by rs B (before ++ a) b) i) rules (stops B (before ++ a) one.stands) in
      subst (λ l. IsPart step h0 l i)
      (ap (λ l. placed_by r0.rules B before a ++ l) (sym (placed_by-append r0.rules B (before ++ a) b rest))
      ∙ sym (placed_by-append r0.rules B before a (b ++ rest)))
      (part-later step h0 h i (placed_by r0.rules B before a) (placed_by r0.rules B (before ++ a) b) (placed_by r0.rules B ((before ++ a) ++ b) rest)
      one.handler part)

-- ---- tokens that wait in the sink

-- if nothing waited before, the kept tokens wait
pub waiting-all : (tokens placed : List Placed) → handed_on waits tokens placed ≡ tokens ++ placed
unfolding handed_on
waiting-all tokens [] = sym (append-nil tokens)
waiting-all tokens (p ∷ placed) = waiting-all (waits tokens p) placed ∙ append_assoc tokens (p ∷ []) placed

-- ---- the bytes of a text

pub to-from : (rules : Rules) (K : Start) (s : Marks) (before text : List ℕ) → (marks_from rules K s before text).to ≡ s.to + place_after text
unfolding marks_from
to-from rules K s before [] = omega arith
to-from rules K s before (c ∷ text) =
    let more = to-from rules K (marks_past rules K s before c) (before ++ c ∷ []) text in
    let one = to-past rules K s before c in
    let len = length-append (encode_utf8 c) (encode_utf8_all text) in
    omega (arith, more, one, len)

-- a reading stands this many bytes after where it began
pub to-stands : (r : Reading) (B : Beginning) (before : List ℕ) → StandsAfter r B before → r.marks.to ≡ B.marks.to + place_after before
to-stands r B before there = ap (λ (m : Marks). m.to) there.marks ∙ to-from r.rules B.start B.marks [] before

-- a reading stands where it begins
pub stands-at_beginning : (r : Reading) (B : Beginning) → r.position ≡ B.start → r.marks ≡ B.marks → StandsAfter r B []
stands-at_beginning r B position marks = record {
  position = position ∙ sym (after-nil standard.step standard.reply standard.foreign r.rules B.start tt);
  marks = marks ∙ sym (marks_of-nil r.rules B);
}
