use Rattle.std.proofs.Common.{◌≡◌, ◌≤◌, false, length, drop}
use Rattle.tree_arena.specs.Children.{children_of, has_node}
use Rattle.tree_arena.proofs.children.last_index_of.Given as goal

-- the node stands nowhere from here on
abbrev pub invariant-loop-at : goal.invariant-loop-at
invariant-loop-at g l = record {
  within : l.at ≤ length l.children;
  passed : has_node l.node.0 (children_of (drop l.at l.children)) ≡ false;
}

abbrev pub decreases-loop-at : goal.decreases-loop-at
decreases-loop-at g l = l.at
