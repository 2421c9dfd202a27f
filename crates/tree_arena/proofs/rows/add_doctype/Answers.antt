use Rattle.std.proofs.Common.{ap, get_or, refl}
use Rattle.std.proofs.lemmas.Result.{on_ok_weaker}
use Rattle.tree_construction.specs.Document.{added, with_children}
use Rattle.tree_construction.specs.Document.Child.{Doctype}
use Rattle.tree_arena.specs.Rows.{plain_row}
use Rattle.tree_arena.proofs.NodeRows.{changed-absent, changed-row}
use Rattle.tree_arena.proofs.rows.add_doctype.Goals as goal

pub returns-in-Some : goal.returns-in-Some
returns-in-Some g c =
    let f = with_children (added (Doctype c.args.name.now c.args.public_id.now c.args.system_id.now)) in
    let old = plain_row (get_or c.args.nodes.now c.in-Some.at c.index-nodes-at.result) in
    on_ok_weaker c.add_doctype.result
    (λ e. changed-row f (λ n r. refl) c.args.nodes.now c.in-Some.at 0 c.index-nodes-at.result _ c.in-Some.ensures
    (ap (λ l. record old { children = l }) e))
    c.add_doctype.ensures

pub returns-in-None : goal.returns-in-None
returns-in-None g c =
    changed-absent (with_children (added (Doctype c.args.name.now c.args.public_id.now c.args.system_id.now))) c.args.nodes.now 0 c.in-None.ensures
