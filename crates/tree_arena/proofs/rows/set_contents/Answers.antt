use Rattle.std.proofs.Common.{Some, refl}
use Rattle.tree_construction.specs.Document.{Row}
use Rattle.tree_arena.proofs.NodeRows.{changed-absent, changed-row}
use Rattle.tree_arena.proofs.rows.set_contents.Goals as goal

pub returns-in-Some : goal.returns-in-Some
returns-in-Some g c =
    let f : Row → Row = λ r. record r { contents = Some c.args.contents.0 } in
    changed-row f (λ n r. refl) c.args.nodes.now c.in-Some.at c.args.id.0 c.index-nodes-at.result _ c.in-Some.ensures refl

pub returns-in_default : goal.returns-in_default
returns-in_default g c =
    let f : Row → Row = λ r. record r { contents = Some c.args.contents.0 } in
    changed-absent f c.args.nodes.now c.args.id.0 c.in_default.ensures
