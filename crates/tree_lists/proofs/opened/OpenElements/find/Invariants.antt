use Rattle.std.proofs.Common.{◌≡◌}
use Rattle.std.proofs.Common.{false, take}
use Rattle.tree_construction.specs.Page.{has_number, has_open}
use Rattle.tree_lists.proofs.opened.OpenElements.find.Given as goal

abbrev pub invariant-loop-depth : goal.invariant-loop-depth
invariant-loop-depth g l = has_open (has_number (g.H.NodeHandle.node l.handle)) (take l.depth l.self) ≡ false
