use Rattle.std.proofs.Common.{ap, get_or, refl}
use Rattle.tree_construction.specs.Document.{with_children, without_node}
use Rattle.tree_arena.specs.Rows.{plain_row}
use Rattle.tree_arena.proofs.NodeRows.{changed-absent, changed-row}
use Rattle.tree_arena.proofs.rows.remove_child.Goals as goal

pub returns-in-Some : goal.returns-in-Some
returns-in-Some g c =
    let old = plain_row (get_or c.args.nodes.now c.in-Some.at c.index-nodes-at.result) in
    changed-row (with_children (without_node c.args.node.0)) (λ n r. refl) c.args.nodes.now c.in-Some.at c.args.parent.0 c.index-nodes-at.result _ c.in-Some.ensures
    (ap (λ l. record old { children = l }) c.remove.ensures)

pub returns-in_default : goal.returns-in_default
returns-in_default g c = changed-absent (with_children (without_node c.args.node.0)) c.args.nodes.now c.args.parent.0 c.in_default.ensures
