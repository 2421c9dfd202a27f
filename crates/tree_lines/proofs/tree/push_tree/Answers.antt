use Rattle.std.proofs.Common.{◌++◌, ap, sym, ◌∙◌}
use Rattle.std.proofs.lemmas.Result.{on_ok_weaker}
use Rattle.tree_arena.specs.Rows.{plain_row, with_number}
use Rattle.tree_construction.specs.Document.{Row}
use Rattle.tree_lines.specs.Lines.{lines_within, node_lines}
use Rattle.tree_lines.proofs.Trees.{lines_of_tree}
use Rattle.tree_lines.proofs.tree.push_tree.Goals as goal

pub returns : goal.returns
returns g c =
    let rows = c.args.arena.now.rows in
    let old = c.args.output.now.items in
    let r : Row = with_number c.args.root.0 (plain_row c.in-Some.node.now) in
    let levels = ap (λ k. lines_within (node_lines k rows 0) 0 r.contents r.children) c.len.ensures in
    let whole = lines_of_tree rows c.args.root.0 r c.in-Some.ensures in
    on_ok_weaker c.push_within.result (λ h. h ∙ ap (λ l. old ++ l) (levels ∙ sym whole)) c.push_within.ensures
