use Rattle.std.proofs.Common.{◌≤◌}
use Rattle.html5cli.proofs.cuts.begun_within.Given as goal

abbrev pub invariant-loop-k : goal.invariant-loop-k
invariant-loop-k l = l.begun ≤ l.k
