use Rattle.std.proofs.Common.{◌≡◌, drop}
use Rattle.tree_construction.specs.Resetting.{mode_of}
use Rattle.tree_builder.proofs.builder.Builder.mode_by_stack.Given as goal

abbrev pub invariant-loop-depth : goal.invariant-loop-depth
invariant-loop-depth g l = mode_of l.self.parser (drop l.depth l.self.parser.page.opened) ≡ mode_of l.self.parser l.self.parser.page.opened
