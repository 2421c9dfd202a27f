-- Telling messages in two parts.
use Rattle.std.proofs.Common.{◌≡◌, ℕ, List, [], ◌∷◌, ◌++◌, refl}
use Rattle.html5ever_interface.specs.Sink.{Message, stepped}
use Rattle.html5ever_interface.specs.Token.{Told}

pub stepped-append : {S : Type 0} → (step : S → Told → ℕ → S) (s : S) (M N : List Message) → stepped step s (M ++ N) ≡ stepped step (stepped step s M) N
unfolding stepped
stepped-append step s [] N = refl
stepped-append step s (m ∷ M) N = stepped-append step (step s m.token m.line) M N
