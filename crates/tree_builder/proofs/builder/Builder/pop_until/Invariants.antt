use Rattle.std.proofs.Common.{◌≡◌, length}
use Rattle.tree_construction.specs.Parser.{pop_until}
use Rattle.tree_builder.specs.Built.{on_parser}
use Rattle.tree_lists.specs.Wanted.{is_wanted}
use Rattle.tree_builder.proofs.builder.Builder.pop_until.Given as goal

abbrev pub invariant-loop-self : goal.invariant-loop-self
invariant-loop-self g l =
    on_parser (pop_until (is_wanted g.S.Handle.NodeHandle.node l.wanted)) l.self ≡ on_parser (pop_until (is_wanted g.S.Handle.NodeHandle.node l.wanted)) l.initial.self

abbrev pub decreases-loop-self : goal.decreases-loop-self
decreases-loop-self g l = length l.self.parser.page.opened
