use Rattle.html5write.specs.Runs.{NoStopWithin}
use Rattle.html5write.proofs.runs.StopsSought.first_in_rest.Given as goal

abbrev pub invariant-loop-at : goal.invariant-loop-at
invariant-loop-at l = NoStopWithin l.bytes l.from l.at
