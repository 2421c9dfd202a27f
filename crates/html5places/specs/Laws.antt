-- That a sink which places tokens keeps the laws of a sink.
use Rattle.std.specs.Prelude.{◌≡◌, ℕ, List, [], ◌++◌}
use Rattle.std.proofs.Common.{ap}
use Rattle.std.proofs.lemmas.List.{append-nil, append_assoc}
use Rattle.html5ever_interface.specs.Token.Told.{Text}
use Rattle.html5places.specs.Marks.{Placed, Placing, placed_step}

pub placed_join : {S : Type 0} → (step : S → Placed → S) (s : Placing S) (a b : List ℕ) (line : ℕ)
    → placed_step step (placed_step step s (Text a) line) (Text b) line ≡ placed_step step s (Text (a ++ b)) line
placed_join step s a b line = ap (λ r. record s { marks = record s.marks { run = r } }) (append_assoc s.marks.run a b)

pub placed_empty : {S : Type 0} → (step : S → Placed → S) (s : Placing S) (line : ℕ) → placed_step step s (Text []) line ≡ s
placed_empty step s line = ap (λ r. record s { marks = record s.marks { run = r } }) (append-nil s.marks.run)
