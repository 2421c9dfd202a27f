use Rattle.std.proofs.Common.{◌≡◌, ◌<◌}
use Rattle.html5cli.proofs.cuts.place_after.Given as goal

abbrev pub invariant-loop-at : goal.invariant-loop-at
invariant-loop-at l = l.at ≡ 0 → 0 < l.left
