use Rattle.std.proofs.Common.{◌≡◌, ◌+◌, drop}
use Rattle.tree_construction.specs.Formatting.{count_after_marker}
use Rattle.tree_lists.proofs.formatting.FormattingList.count_after_marker.Given as goal

abbrev pub invariant-loop-depth : goal.invariant-loop-depth
invariant-loop-depth g l = l.depth + count_after_marker (drop l.depth l.self) ≡ count_after_marker l.self
