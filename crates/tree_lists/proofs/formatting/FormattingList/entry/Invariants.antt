use Rattle.std.proofs.Common.{◌≡◌, drop}
use Rattle.tree_construction.specs.Adoption.{entry_of}
use Rattle.tree_lists.proofs.formatting.FormattingList.entry.Given as goal

abbrev pub invariant-loop-depth : goal.invariant-loop-depth
invariant-loop-depth g l = entry_of (g.H.NodeHandle.node l.handle) (drop l.depth l.self) ≡ entry_of (g.H.NodeHandle.node l.handle) l.self
