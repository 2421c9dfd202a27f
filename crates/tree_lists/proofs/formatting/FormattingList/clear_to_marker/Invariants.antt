use Rattle.std.proofs.Common.{◌≡◌}
use Rattle.std.proofs.Common.{length}
use Rattle.tree_construction.specs.Formatting.{cleared}
use Rattle.tree_lists.proofs.formatting.FormattingList.clear_to_marker.Given as goal

abbrev pub invariant-loop-entry : goal.invariant-loop-entry
invariant-loop-entry g l = cleared l.self ≡ cleared l.initial.self

abbrev pub decreases-loop-entry : goal.decreases-loop-entry
decreases-loop-entry g l = length l.self
