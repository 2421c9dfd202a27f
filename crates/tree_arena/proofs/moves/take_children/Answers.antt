use Rattle.std.proofs.Common.{[], ap, get_or, refl, sym, ◌∙◌}
use Rattle.tree_construction.specs.Document.{with_children}
use Rattle.tree_arena.specs.Children.{children_of}
use Rattle.tree_arena.specs.Rows.{plain_row}
use Rattle.tree_arena.proofs.NodeRows.{changed-absent, changed-row, read-absent, read-row}
use Rattle.tree_arena.proofs.moves.take_children.Goals as goal

pub returns-in-Some-clause-taken : goal.returns-in-Some-clause-taken
returns-in-Some-clause-taken g c =
    ap (λ v. children_of v.items) c.replace.ensures.value
    ∙ sym (ap (λ r. r.children) (read-row c.args.nodes.now c.in-Some.at c.args.source.0 c.index-nodes-at.result c.in-Some.ensures))

pub returns-in-Some-clause-left : goal.returns-in-Some-clause-left
returns-in-Some-clause-left g c =
    let old = plain_row (get_or c.args.nodes.now c.in-Some.at c.index-nodes-at.result) in
    changed-row (with_children (λ own. [])) (λ n r. refl) c.args.nodes.now c.in-Some.at c.args.source.0 c.index-nodes-at.result _ c.in-Some.ensures
    (ap (λ v. record old { children = children_of v.items }) c.replace.ensures.after ∙ ap (λ l. record old { children = children_of l }) c.new.ensures.items)

pub returns-in-None-clause-taken : goal.returns-in-None-clause-taken
returns-in-None-clause-taken g c =
    ap children_of c.new-in-None.ensures.items ∙ sym (ap (λ r. r.children) (read-absent c.args.nodes.now c.args.source.0 c.in-None.ensures))

pub returns-in-None-clause-left : goal.returns-in-None-clause-left
returns-in-None-clause-left g c = changed-absent (with_children (λ own. [])) c.args.nodes.now c.args.source.0 c.in-None.ensures
