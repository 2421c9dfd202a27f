use Rattle.std.proofs.Common.{◌≡◌, drop}
use Rattle.tree_construction.specs.Page.{has_open}
use Rattle.tree_lists.specs.Wanted.{is_wanted}
use Rattle.tree_lists.proofs.opened.OpenElements.has.Given as goal

abbrev pub invariant-loop-depth : goal.invariant-loop-depth
invariant-loop-depth g l = has_open (is_wanted g.H.NodeHandle.node l.wanted) (drop l.depth l.self) ≡ has_open (is_wanted g.H.NodeHandle.node l.wanted) l.self
