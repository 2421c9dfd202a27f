use Rattle.std.proofs.Common.{◌≡◌, ◌+◌, false}
use Rattle.html5write.specs.Runs.{NoStopWithin}
use Rattle.html5write.proofs.runs.has_stop.Given as goal

abbrev pub invariant-loop-k : goal.invariant-loop-k
invariant-loop-k l = l.found ≡ false → NoStopWithin l.bytes l.from (l.from + l.k)
