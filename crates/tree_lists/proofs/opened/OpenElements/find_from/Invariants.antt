use Rattle.std.proofs.Common.{◌≡◌, drop}
use Rattle.std.proofs.Common.{false, take}
use Rattle.tree_construction.specs.Page.{has_number, has_open}
use Rattle.tree_lists.proofs.opened.OpenElements.find_from.Given as goal

abbrev pub invariant-loop-count : goal.invariant-loop-count
invariant-loop-count g l = has_open (has_number (g.H.NodeHandle.node l.handle)) (take l.count (drop l.from l.self)) ≡ false
