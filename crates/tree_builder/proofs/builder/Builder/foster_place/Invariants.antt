use Rattle.std.proofs.Common.{◌≡◌, drop}
use Rattle.tree_construction.specs.Page.{foster_place_in}
use Rattle.tree_builder.proofs.builder.Builder.foster_place.Given as goal

abbrev pub invariant-loop-depth : goal.invariant-loop-depth
invariant-loop-depth g l = foster_place_in (g.S.Handle.NodeHandle.node l.passed) (drop l.depth l.self.parser.page.opened) ≡ foster_place_in 0 l.self.parser.page.opened
