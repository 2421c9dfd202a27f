use Rattle.std.proofs.Common.{◌≡◌, length}
use Rattle.std.specs.Prelude.{map}
use Rattle.tree_lists.specs.Formatting.{listed_of}
use Rattle.tree_builder.specs.Built.{on_parser, reopened_all}
use Rattle.tree_builder.proofs.builder.Builder.reopen_all.Given as goal

abbrev pub invariant-loop-element : goal.invariant-loop-element
invariant-loop-element g l =
    on_parser (reopened_all (map (listed_of g.S.Handle.NodeHandle.node g.T.TagAttributes.said) l.left)) l.self
    ≡ on_parser (reopened_all (map (listed_of g.S.Handle.NodeHandle.node g.T.TagAttributes.said) l.initial.left)) l.initial.self

abbrev pub decreases-loop-element : goal.decreases-loop-element
decreases-loop-element g l = length l.left
