use Rattle.std.proofs.Common.{ap, get_or, option_map, refl}
use Rattle.std.proofs.lemmas.Result.{on_ok_weaker}
use Rattle.tree_construction.specs.Document.{put_among, with_children}
use Rattle.tree_construction.specs.Document.Child.{Text as DocumentText}
use Rattle.tree_arena.specs.Children.{number}
use Rattle.tree_arena.specs.Rows.{plain_row}
use Rattle.tree_arena.proofs.NodeRows.{changed-absent, changed-row}
use Rattle.tree_arena.proofs.rows.put_text.Goals as goal

pub returns-in-Some : goal.returns-in-Some
returns-in-Some g c =
    let f = with_children (put_among (option_map number c.args.before) (DocumentText c.args.text.now)) in
    let old = plain_row (get_or c.args.nodes.now c.in-Some.at c.index-nodes-at.result) in
    on_ok_weaker c.put_text.result
    (λ e. changed-row f (λ n r. refl) c.args.nodes.now c.in-Some.at c.args.parent.0 c.index-nodes-at.result _ c.in-Some.ensures
    (ap (λ l. record old { children = l }) e))
    c.put_text.ensures

pub returns-in-None : goal.returns-in-None
returns-in-None g c =
    changed-absent (with_children (put_among (option_map number c.args.before) (DocumentText c.args.text.now))) c.args.nodes.now c.args.parent.0 c.in-None.ensures
