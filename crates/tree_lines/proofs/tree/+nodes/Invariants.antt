use Rattle.std.proofs.Common.{◌≡◌, ◌+◌, ◌*◌, ◌++◌, drop, map}
use Rattle.tree_arena.specs.Children.{child_of}
use Rattle.tree_lines.specs.Lines.{children_lines, node_lines}
use Rattle.tree_lines.proofs.tree.+nodes.Given as goal

abbrev pub decreases-push_node : goal.decreases-push_node
decreases-push_node g l = 4 * l.levels

abbrev pub decreases-push_child : goal.decreases-push_child
decreases-push_child g l = 4 * l.levels + 1

abbrev pub decreases-push_children : goal.decreases-push_children
decreases-push_children g l = 4 * l.levels + 2

abbrev pub decreases-push_within : goal.decreases-push_within
decreases-push_within g l = 4 * l.levels + 3

abbrev pub invariant-push_children-loop-child : goal.invariant-push_children-loop-child
invariant-push_children-loop-child g l =
    let lines = node_lines l.levels l.arena.rows l.depth in
    l.output.items ++ children_lines lines l.depth (map child_of (drop l.child-index l.children))
    ≡ l.initial.output.items ++ children_lines lines l.depth (map child_of l.children)
