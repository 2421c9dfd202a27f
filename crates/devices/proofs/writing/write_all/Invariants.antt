-- What is gone from `rest` was taken, and no write failed yet.
use Rattle.std.proofs.Common.{◌≡◌, ◌++◌, [], List, ℕ, length}
use Rattle.std.specs.Io.KnownBytes.{Appends}
use Rattle.devices.proofs.writing.write_all.Given as goal

abbrev pub invariant-loop-rest : goal.invariant-loop-rest
invariant-loop-rest g l = record {
  taken : (done : List ℕ) × (l.bytes ≡ done ++ l.rest) × Appends (g.W.Target.contents l.initial.target) (g.W.Target.contents l.target) done;
  no_failure : g.W.Target.failures l.target ≡ g.W.Target.failures l.initial.target;
  untouched : l.bytes ≡ [] → l.target ≡ l.initial.target;
}

abbrev pub decreases-loop-rest : goal.decreases-loop-rest
decreases-loop-rest g l = length l.rest
