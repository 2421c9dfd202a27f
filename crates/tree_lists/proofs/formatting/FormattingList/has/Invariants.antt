use Rattle.std.proofs.Common.{◌≡◌, drop}
use Rattle.tree_construction.specs.Formatting.{has_entry}
use Rattle.tree_lists.proofs.formatting.FormattingList.has.Given as goal

abbrev pub invariant-loop-depth : goal.invariant-loop-depth
invariant-loop-depth g l = has_entry (g.H.NodeHandle.node l.handle) (drop l.depth l.self) ≡ has_entry (g.H.NodeHandle.node l.handle) l.self
