use Rattle.std.proofs.Common.{ap, get_or, map, refl}
use Rattle.std.proofs.lemmas.Result.{on_ok_weaker}
use Rattle.markup5ever.specs.Names.{attribute_of}
use Rattle.tree_construction.specs.Document.{Row, with_attributes}
use Rattle.tree_arena.specs.Rows.{plain_row}
use Rattle.tree_arena.proofs.NodeRows.{changed-absent, changed-row}
use Rattle.tree_arena.proofs.rows.add_attributes.Goals as goal

pub returns-in-Some : goal.returns-in-Some
returns-in-Some g c =
    let f : Row → Row = λ r. record r { what = with_attributes (map attribute_of c.args.more.now) r.what } in
    let old = plain_row (get_or c.args.nodes.now c.in-Some.at c.index-nodes-at.result) in
    on_ok_weaker c.add_attributes.result
    (λ e. changed-row f (λ n r. refl) c.args.nodes.now c.in-Some.at c.args.id.0 c.index-nodes-at.result _ c.in-Some.ensures
    (ap (λ what. record old { what = what }) e))
    c.add_attributes.ensures

pub returns-in-None : goal.returns-in-None
returns-in-None g c =
    let f : Row → Row = λ r. record r { what = with_attributes (map attribute_of c.args.more.now) r.what } in
    changed-absent f c.args.nodes.now c.args.id.0 c.in-None.ensures
