use Rattle.std.proofs.Common.{◌≡◌, ◌++◌, length}
use Rattle.std.specs.Prelude.{map, reverse}
use Rattle.tree_construction.specs.Formatting.{still_listed, to_reopen}
use Rattle.tree_lists.specs.Formatting.{listed_of}
use Rattle.tree_lists.proofs.formatting.FormattingList.take_lost.Given as goal

abbrev pub invariant-loop-element : goal.invariant-loop-element
invariant-loop-element g l = record {
  lost : reverse (map (listed_of g.H.NodeHandle.node g.T.TagAttributes.said) l.lost) ++ to_reopen l.opened l.self ≡ to_reopen l.opened l.initial.self;
  kept : still_listed l.opened l.self ≡ still_listed l.opened l.initial.self;
}

abbrev pub decreases-loop-element : goal.decreases-loop-element
decreases-loop-element g l = length l.self
