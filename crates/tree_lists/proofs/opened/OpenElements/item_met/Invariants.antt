use Rattle.std.proofs.Common.{◌≡◌, drop}
use Rattle.tree_construction.specs.InBody.{item_met}
use Rattle.tree_construction.specs.Page.{has_kind}
use Rattle.tree_lists.specs.Wanted.{is_in}
use Rattle.tree_lists.proofs.opened.OpenElements.item_met.Given as goal

abbrev pub invariant-loop-depth : goal.invariant-loop-depth
invariant-loop-depth g l = item_met (has_kind (is_in l.set)) (drop l.depth l.self) ≡ item_met (has_kind (is_in l.set)) l.self
