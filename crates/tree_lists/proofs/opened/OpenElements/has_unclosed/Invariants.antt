use Rattle.std.proofs.Common.{◌≡◌, drop}
use Rattle.std.specs.Prelude.{not}
use Rattle.tree_construction.specs.Names.{may_stay_open}
use Rattle.tree_construction.specs.Page.{has_open}
use Rattle.tree_lists.proofs.opened.OpenElements.has_unclosed.Given as goal

abbrev pub invariant-loop-depth : goal.invariant-loop-depth
invariant-loop-depth g l = has_open (λ e. not (may_stay_open e.kind)) (drop l.depth l.self) ≡ has_open (λ e. not (may_stay_open e.kind)) l.self
