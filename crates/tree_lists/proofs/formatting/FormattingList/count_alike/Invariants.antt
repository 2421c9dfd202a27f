use Rattle.std.proofs.Common.{◌≡◌, drop}
use Rattle.std.proofs.Common.{◌+◌, ◌≤◌}
use Rattle.tree_construction.specs.Formatting.{count_alike}
use Rattle.tree_lists.specs.Formatting.{listed_of}
use Rattle.tree_lists.proofs.formatting.FormattingList.count_alike.Given as goal

abbrev pub invariant-loop-depth : goal.invariant-loop-depth
invariant-loop-depth g l = record {
  counted : l.count + count_alike (listed_of g.H.NodeHandle.node g.T.TagAttributes.said l.element).name (listed_of g.H.NodeHandle.node g.T.TagAttributes.said l.element).attributes (drop l.depth l.self) ≡ count_alike (listed_of g.H.NodeHandle.node g.T.TagAttributes.said l.element).name (listed_of g.H.NodeHandle.node g.T.TagAttributes.said l.element).attributes l.self;
  within : l.count ≤ l.depth;
}
