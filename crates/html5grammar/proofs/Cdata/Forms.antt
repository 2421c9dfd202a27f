-- Each text without `]]>` is that of a CDATA section, written out.
use Rattle.std.proofs.Common.{◌≡◌, ℕ, Bool, true, false, List, [], ◌∷◌, ◌++◌, refl, ap, sym, ◌∙◌}
use Rattle.std.specs.Prelude.{◌==◌, ◌||◌, ◌&&◌, not, nat_eq, codes}
use Rattle.std.specs.List.{list_all}
use Rattle.std.proofs.Math.Bool.{and-false}
use Rattle.std.proofs.lemmas.Bool.{false≢true, eqb-true, and_parts, not-true, false_from_ne_true}
use Rattle.std.proofs.lemmas.List.{append-nil}
use Rattle.html5reading.specs.Characters.{null}
use Rattle.html5grammar.specs.Cdata.{opening_text, end_text, pieces_text, written, is_piece, is_written, IsCdataText}
use Rattle.html5grammar.specs.Comment.{begins_with, occurs}
use Rattle.html5grammar.proofs.Comment.Held.{both-false}

abbrev end : List ℕ
end = codes "]]>"

begins-more : (front later : List ℕ) → begins_with end front ≡ true → begins_with end (front ++ later) ≡ true
begins-more [] later h = absurd (false≢true h)
begins-more (a ∷ []) later h = absurd (false≢true (sym (and-false (nat_eq 0x5D a)) ∙ h))
begins-more (a ∷ b ∷ []) later h =
    absurd (false≢true (sym (and-false (nat_eq 0x5D a)) ∙ ap (λ t. nat_eq 0x5D a && t) (sym (and-false (nat_eq 0x5D b))) ∙ h))
begins-more (a ∷ b ∷ c ∷ front) later h = h

-- a piece with a character in front
piece-more : (c : ℕ) (piece later text : List ℕ) → (c == null) ≡ false → text ≡ piece ++ later → begins_with end (c ∷ text) ≡ false
    → is_piece piece ≡ true → is_piece (c ∷ piece) ≡ true
unfolding is_piece occurs
piece-more c piece later text other split none h =
    let p = and_parts (list_all (λ d. not (d == null)) piece) (not (occurs end piece)) h in
    let begins : begins_with end (c ∷ piece) ≡ false =
    false_from_ne_true (begins_with end (c ∷ piece)) (λ g. false≢true (sym none ∙ ap (λ l. begins_with end (c ∷ l)) split ∙ begins-more (c ∷ piece) later g)) in
    rw (other, begins, p.0, not-true (occurs end piece) p.1) refl

record Pieces (text : List ℕ) : Type 0 where
  pieces : List (List ℕ)
  last : List ℕ
  parts : pieces_text pieces last ≡ text
  all : list_all is_piece pieces ≡ true
  is_last : is_piece last ≡ true

-- one character more in front of pieces belongs to the first piece
pieces-front : (c : ℕ) (text : List ℕ) → (c == null) ≡ false → begins_with end (c ∷ text) ≡ false
    → (pieces : List (List ℕ)) (last : List ℕ) → pieces_text pieces last ≡ text → list_all is_piece pieces ≡ true → is_piece last ≡ true → Pieces (c ∷ text)
unfolding pieces_text
pieces-front c text other none [] last parts all is_last = record {
  pieces = [];
  last = c ∷ last;
  parts = ap (λ l. c ∷ l) parts;
  all = refl;
  is_last = piece-more c last [] text other (sym parts ∙ sym (append-nil last)) none is_last;
}
pieces-front c text other none (piece ∷ pieces) last parts all is_last =
    let p = and_parts (is_piece piece) (list_all is_piece pieces) all in
    record {
      pieces = (c ∷ piece) ∷ pieces;
      last = last;
      parts = ap (λ l. c ∷ l) parts;
      all = rw (piece-more c piece (null ∷ pieces_text pieces last) text other (sym parts) none p.0, p.1) refl;
      is_last = is_last;
    }

pieces-next : (c : ℕ) (text : List ℕ) → begins_with end (c ∷ text) ≡ false → Pieces text → (is_null : Bool) → (c == null) ≡ is_null → Pieces (c ∷ text)
unfolding pieces_text is_piece occurs
pieces-next c text none s true e = record {
  pieces = [] ∷ s.pieces;
  last = s.last;
  parts = ap (λ l. null ∷ l) s.parts ∙ ap (λ d. d ∷ text) (sym (eqb-true c null e));
  all = s.all;
  is_last = s.is_last;
}
pieces-next c text none s false e = pieces-front c text e none s.pieces s.last s.parts s.all s.is_last

pieces-of : (text : List ℕ) → occurs end text ≡ false → Pieces text
unfolding occurs pieces_text is_piece
pieces-of [] h = record { pieces = []; last = []; parts = refl; all = refl; is_last = refl }
pieces-of (c ∷ text) h =
    let p = both-false (begins_with end (c ∷ text)) (occurs end text) h in
    pieces-next c text p.0 (pieces-of text p.1) (c == null) refl

-- a text without `]]>` is that of a section: the statement of `each_cdata`
pub each-cdata : (has_opening is_ended : Bool) (text : List ℕ) → occurs (codes "]]>") text ≡ false → IsCdataText has_opening is_ended text
unfolding written is_written
each-cdata has_opening is_ended text h =
    let s : Pieces text = pieces-of text h in
    let can_begin : (not has_opening || has_opening) ≡ true = elim has_opening as (λ b. (not b || b) ≡ true) [
      | true ↦ refl
      | false ↦ refl
    ] in
    record {
      cdata = record { has_opening = has_opening; pieces = s.pieces; last = s.last; is_ended = is_ended };
      opens = refl;
      ends = refl;
      is_cdata = rw (can_begin, s.all, s.is_last) refl;
      is_text = ap (λ l. opening_text has_opening ++ (l ++ end_text is_ended)) s.parts;
    }
