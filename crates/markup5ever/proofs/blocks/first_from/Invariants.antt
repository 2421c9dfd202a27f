use Rattle.std.proofs.Common.{◌-◌, ◌≤◌, length}
use Rattle.markup5ever.specs.Blocks.{NoneWithin}
use Rattle.markup5ever.proofs.blocks.first_from.Given as goal

abbrev pub invariant-loop-at : goal.invariant-loop-at
invariant-loop-at g l = (l.from ≤ l.at) × (l.at ≤ length l.bytes) × NoneWithin (g.S.Sought.is_sought l.sought) l.bytes l.from l.at

abbrev pub decreases-loop-at : goal.decreases-loop-at
decreases-loop-at g l = length l.bytes - l.at
