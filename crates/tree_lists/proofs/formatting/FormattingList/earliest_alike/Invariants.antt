use Rattle.tree_lists.proofs.Searches.{IsCounting}
use Rattle.tree_lists.specs.Formatting.{listed_of}
use Rattle.tree_lists.proofs.formatting.FormattingList.earliest_alike.Given as goal

abbrev pub invariant-loop-depth : goal.invariant-loop-depth
invariant-loop-depth g l = IsCounting (listed_of g.H.NodeHandle.node g.T.TagAttributes.said l.element).name (listed_of g.H.NodeHandle.node g.T.TagAttributes.said l.element).attributes l.self l.total l.seen l.depth
