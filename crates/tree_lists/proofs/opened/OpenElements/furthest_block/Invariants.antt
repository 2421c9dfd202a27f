use Rattle.std.proofs.Common.{◌≡◌, drop}
use Rattle.tree_construction.specs.Adoption.{furthest_block, opened_inside}
use Rattle.tree_lists.specs.Opened.{later_depth}
use Rattle.tree_lists.proofs.opened.OpenElements.furthest_block.Given as goal

abbrev pub invariant-loop-depth : goal.invariant-loop-depth
invariant-loop-depth g l = later_depth l.depth (furthest_block (opened_inside (g.H.NodeHandle.node l.handle) (drop l.depth l.self))) l.block ≡ furthest_block (opened_inside (g.H.NodeHandle.node l.handle) l.self)
