use Rattle.std.proofs.Common.{◌≡◌, length}
use Rattle.tree_construction.specs.Parser.{pop_while}
use Rattle.tree_builder.specs.Built.{is_popped, on_parser}
use Rattle.tree_builder.proofs.builder.Builder.pop_while.Given as goal

abbrev pub invariant-loop-self : goal.invariant-loop-self
invariant-loop-self g l =
    on_parser (pop_while (is_popped g.S.Handle.NodeHandle.node l.test)) l.self ≡ on_parser (pop_while (is_popped g.S.Handle.NodeHandle.node l.test)) l.initial.self

abbrev pub decreases-loop-self : goal.decreases-loop-self
decreases-loop-self g l = length l.self.parser.page.opened
