use Rattle.std.proofs.Common.{◌≡◌, drop}
use Rattle.tree_construction.specs.Page.{has_in_scope}
use Rattle.tree_lists.specs.Wanted.{ends, is_wanted}
use Rattle.tree_lists.proofs.opened.OpenElements.has_in_scope.Given as goal

abbrev pub invariant-loop-depth : goal.invariant-loop-depth
invariant-loop-depth g l = has_in_scope (ends l.scope) (is_wanted g.H.NodeHandle.node l.wanted) (drop l.depth l.self) ≡ has_in_scope (ends l.scope) (is_wanted g.H.NodeHandle.node l.wanted) l.self
