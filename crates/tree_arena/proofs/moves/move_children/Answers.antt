use Rattle.std.proofs.Common.{map, ap, ◌∙◌}
use Rattle.tree_construction.specs.Document.{changed, moved, row_of, with_children}
use Rattle.tree_arena.specs.Rows.{rows_of}
use Rattle.tree_arena.proofs.moves.move_children.Goals as goal

pub returns : goal.returns
returns g c =
    let s = c.args.source.0 in
    let t = c.args.target.0 in
    c.move_nodes.ensures ∙ ap (map (moved s t)) (c.set_children.ensures
    ∙ (ap (λ l. changed t (with_children (λ own. l)) (rows_of c.take_children-children.new.nodes)) c.take_children-children.ensures.taken
    ∙ ap (changed t (with_children (λ own. (row_of s (rows_of c.args.nodes.now)).children))) c.take_children-children.ensures.left))
