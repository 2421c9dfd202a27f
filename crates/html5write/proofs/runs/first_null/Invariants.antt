use Rattle.std.proofs.Common.{length, ◌-◌, ◌≤◌}
use Rattle.markup5ever.specs.Blocks.{NoneWithin}
use Rattle.html5write.specs.Runs.{IsNull}
use Rattle.html5write.proofs.runs.first_null.Given as goal

abbrev pub invariant-loop-at : goal.invariant-loop-at
invariant-loop-at l = (l.at ≤ length l.bytes) × NoneWithin IsNull l.bytes 0 l.at

abbrev pub decreases-loop-at : goal.decreases-loop-at
decreases-loop-at l = length l.bytes - l.at
