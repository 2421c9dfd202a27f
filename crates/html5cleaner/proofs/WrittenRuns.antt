-- What is written of a run of text and of the token after it.
use Rattle.std.proofs.Common.{◌≡◌, ℕ, Bool, true, false, List, [], ◌∷◌, ◌++◌, chars, refl, ap, sym, ◌∙◌, append_assoc}
use Rattle.std.specs.Prelude.{if◌then◌else◌}
use Rattle.std.proofs.lemmas.List.{append-nil}
use Rattle.html5write.specs.Pieces.{Piece, has_no_null}
use Rattle.html5write.specs.Pieces.Piece.{TextPiece}
use Rattle.html5cleaner.specs.Shape.{shape_by_balance}
use Rattle.html5cleaner.specs.Shape.Shape.{AsKept}
use Rattle.html5cleaner.specs.Balance.{all_balanced, all_open_after, balanced, closed_at_end, end_tags, open_after, open_by, written_by}
use Rattle.html5cleaner.specs.Clean.{kept_of_run}
use Rattle.html5cleaner.proofs.Balancing.{AllGo, Goes, nested-balanced, nested-open}

-- ---- a run opens no element and closes none

balanced-text : (opened : List (List ℕ)) (text : List ℕ) (writable : Bool) (later : List Piece)
    → all_balanced opened ((if writable then TextPiece text ∷ [] else []) ++ later) ≡ (if writable then TextPiece text ∷ [] else []) ++ all_balanced opened later
unfolding all_balanced balanced open_after
balanced-text opened text true later = refl
balanced-text opened text false later = refl

open-text : (opened : List (List ℕ)) (text : List ℕ) (writable : Bool) (later : List Piece)
    → all_open_after opened ((if writable then TextPiece text ∷ [] else []) ++ later) ≡ all_open_after opened later
unfolding all_open_after open_after
open-text opened text true later = refl
open-text opened text false later = refl

pub balanced-run : (opened : List (List ℕ)) (run : List ℕ) (later : List Piece) → all_balanced opened (kept_of_run run ++ later) ≡ kept_of_run run ++ all_balanced opened later
unfolding kept_of_run
balanced-run opened [] later = refl
balanced-run opened (byte ∷ run) later = balanced-text opened (chars (byte ∷ run)) (has_no_null (chars (byte ∷ run))) later

pub open-after_run : (opened : List (List ℕ)) (run : List ℕ) (later : List Piece) → all_open_after opened (kept_of_run run ++ later) ≡ all_open_after opened later
unfolding kept_of_run
open-after_run opened [] later = refl
open-after_run opened (byte ∷ run) later = open-text opened (chars (byte ∷ run)) (has_no_null (chars (byte ∷ run))) later

pub written-run : (balance ends : Bool) (opened : List (List ℕ)) (run : List ℕ) (later : List Piece)
    → written_by (shape_by_balance balance) ends opened (kept_of_run run ++ later) ≡ kept_of_run run ++ written_by (shape_by_balance balance) ends opened later
unfolding written_by
written-run true ends opened run later =
    (λ i. balanced-run opened run later i ++ closed_at_end ends (open-after_run opened run later i))
    ∙ append_assoc (kept_of_run run) (all_balanced opened later) (closed_at_end ends (all_open_after opened later))
written-run false ends opened run later = refl

pub open-run : (balance ends : Bool) (opened : List (List ℕ)) (run : List ℕ) (later : List Piece)
    → open_by (shape_by_balance balance) ends opened (kept_of_run run ++ later) ≡ open_by (shape_by_balance balance) ends opened later
unfolding open_by
open-run true ends opened run later = ap (λ (o : List (List ℕ)). if ends then [] else o) (open-after_run opened run later)
open-run false ends opened run later = refl

-- ---- nothing

pub nothing-written : (balance : Bool) (opened : List (List ℕ)) → written_by (shape_by_balance balance) false opened [] ≡ []
unfolding written_by all_balanced
nothing-written true opened = refl
nothing-written false opened = refl

pub nothing-opened : (balance : Bool) (opened : List (List ℕ)) → open_by (shape_by_balance balance) false opened [] ≡ opened
unfolding open_by all_open_after
nothing-opened true opened = refl
nothing-opened false opened = refl

-- a run that no tag follows is written as it is
pub plain-run : (balance : Bool) (opened : List (List ℕ)) (run : List ℕ) → written_by (shape_by_balance balance) false opened (kept_of_run run ++ []) ≡ kept_of_run run ++ []
plain-run balance opened run = written-run balance false opened run [] ∙ ap (λ l. kept_of_run run ++ l) (nothing-written balance opened)

pub plain-open : (balance : Bool) (opened : List (List ℕ)) (run : List ℕ) → open_by (shape_by_balance balance) false opened (kept_of_run run ++ []) ≡ opened
plain-open balance opened run = open-run balance false opened run [] ∙ nothing-opened balance opened

-- ---- one piece

balanced-alone : (opened : List (List ℕ)) (piece : Piece) → all_balanced opened (piece ∷ []) ≡ balanced opened piece
unfolding all_balanced
balanced-alone opened piece = append-nil (balanced opened piece)

-- ---- a run and the piece after it

pub piece-balanced : (opened : List (List ℕ)) (run : List ℕ) (piece : Piece) → all_balanced opened (kept_of_run run ++ piece ∷ []) ≡ kept_of_run run ++ balanced opened piece
piece-balanced opened run piece = balanced-run opened run (piece ∷ []) ∙ ap (λ l. kept_of_run run ++ l) (balanced-alone opened piece)

pub piece-open : (opened : List (List ℕ)) (run : List ℕ) (piece : Piece) → all_open_after opened (kept_of_run run ++ piece ∷ []) ≡ open_after opened piece
unfolding all_open_after
piece-open opened run piece = open-after_run opened run (piece ∷ [])

pub none-balanced : (opened : List (List ℕ)) (run : List ℕ) → all_balanced opened (kept_of_run run ++ []) ≡ kept_of_run run ++ []
unfolding all_balanced
none-balanced opened run = balanced-run opened run []

pub none-opened : (opened : List (List ℕ)) (run : List ℕ) → all_open_after opened (kept_of_run run ++ []) ≡ opened
unfolding all_open_after
none-opened opened run = open-after_run opened run []

-- ---- by the rule, and without it

pub written-by_rule : (balance : Bool) (opened : List (List ℕ)) (pieces : List Piece) → balance ≡ true → written_by (shape_by_balance balance) false opened pieces ≡ all_balanced opened pieces
unfolding written_by
written-by_rule true opened pieces is = append-nil (all_balanced opened pieces)
written-by_rule false opened pieces is = absurd cc

pub open-by_rule : (balance : Bool) (opened : List (List ℕ)) (pieces : List Piece) → balance ≡ true → open_by (shape_by_balance balance) false opened pieces ≡ all_open_after opened pieces
unfolding open_by
open-by_rule true opened pieces is = refl
open-by_rule false opened pieces is = absurd cc

pub written-plain : (balance ends : Bool) (opened : List (List ℕ)) (pieces : List Piece) → balance ≡ false → written_by (shape_by_balance balance) ends opened pieces ≡ pieces
unfolding written_by
written-plain true ends opened pieces is = absurd cc
written-plain false ends opened pieces is = refl

pub open-plain : (balance ends : Bool) (opened : List (List ℕ)) (pieces : List Piece) → balance ≡ false → open_by (shape_by_balance balance) ends opened pieces ≡ opened
unfolding open_by
open-plain true ends opened pieces is = absurd cc
open-plain false ends opened pieces is = refl

-- a run at the end of a page, by the rule: all that is open is closed
pub written-last : (balance : Bool) (opened : List (List ℕ)) (run : List ℕ) → balance ≡ true → written_by (shape_by_balance balance) true opened (kept_of_run run ++ []) ≡ kept_of_run run ++ end_tags opened
unfolding written_by all_balanced all_open_after
written-last true opened run is = written-run true true opened run []
written-last false opened run is = absurd cc

pub open-last : (balance : Bool) (opened : List (List ℕ)) (pieces : List Piece) → balance ≡ true → open_by (shape_by_balance balance) true opened pieces ≡ []
unfolding open_by
open-last true opened pieces is = refl
open-last false opened pieces is = absurd cc

-- ---- the end

pub go-none : (opened after : List (List ℕ)) (pieces : List Piece) → AllGo AsKept opened pieces after → opened ≡ after
go-none opened after [] go = go
go-none opened after (piece ∷ pieces) go = go.1.0 ∙ go-none go.0 after pieces go.1.1

-- without the rule nothing is open
pub none-open : (balance : Bool) (opened : List (List ℕ)) (pieces : List Piece) → balance ≡ false → AllGo (shape_by_balance balance) [] pieces opened → opened ≡ []
none-open true opened pieces is go = absurd cc
none-open false opened pieces is go = sym (go-none [] opened pieces go)
