use Rattle.std.proofs.Common.{◌≡◌}
use Rattle.std.proofs.Common.{false, take}
use Rattle.tree_construction.specs.Formatting.{has_entry}
use Rattle.tree_lists.proofs.formatting.FormattingList.find.Given as goal

abbrev pub invariant-loop-depth : goal.invariant-loop-depth
invariant-loop-depth g l = has_entry (g.H.NodeHandle.node l.handle) (take l.depth l.self) ≡ false
