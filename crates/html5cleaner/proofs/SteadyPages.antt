-- What a handler wrote is kept again as it is.
use Rattle.std.proofs.Common.{◌≡◌, ℕ, List, [], ◌++◌, refl, subst}
use Rattle.html5ever_interface.specs.Sink.{Message}
use Rattle.html5ever_interface.specs.Token.{Told}
use Rattle.html5policy.specs.Policy.{PolicyOf}
use Rattle.html5policy.specs.Rules.{IsSound}
use Rattle.html5stream.proofs.Handed.{kept-handed}
use Rattle.html5stream.specs.Pages.{runs_handed}
use Rattle.html5write.specs.Pieces.{Piece}
use Rattle.html5cleaner.specs.Balance.{is_end, written_by}
use Rattle.html5cleaner.specs.Clean.{Cleaned, at_start, clean_step, kept_where}
use Rattle.html5cleaner.specs.Shape.{shape_of}
use Rattle.html5cleaner.proofs.CleanBalanced.{CanClose}
use Rattle.html5cleaner.proofs.GoodItems as good
use Rattle.html5cleaner.proofs.Printing.{policy-handed}
use Rattle.html5cleaner.proofs.Steady.{AreSteady, steady-append}

-- it is steady, and the end tags of the open elements are clean
record IsSteadyPage (c : Cleaned) : Type 0 where
  steady : AreSteady c.policy c.pieces
  can : CanClose c.policy c.opened

steady-step : (c : Cleaned) (run : List ℕ) (told : Told) (line : ℕ) → IsSound c.policy → IsSteadyPage c → IsSteadyPage (clean_step c run told line)
steady-step c run told line sound s =
    let kept : List Piece = kept_where c.policy c.hidden.depth run told in
    let step = good.steady-step c.policy sound c.hidden.depth run told c.opened s.can in
    record {
      steady = steady-append c.policy c.pieces (written_by (shape_of c.policy) (is_end told) c.opened kept) s.steady step.0;
      can = step.1;
    }

-- the pieces that were written of messages
pub steady-handed : (policy : PolicyOf) → IsSound policy → (M : List Message) → AreSteady policy (runs_handed clean_step (at_start policy) M).pieces
steady-handed policy sound M =
    subst (λ (p : PolicyOf). AreSteady p (runs_handed clean_step (at_start policy) M).pieces) (policy-handed policy M)
    (kept-handed clean_step (λ c. IsSound c.policy × IsSteadyPage c) (λ c run told line s. (s.0, steady-step c run told line s.0 s.1)) (at_start policy) M
    (sound, record { steady = tt; can = refl })).1.steady
