use Rattle.std.proofs.Common.{◌≡◌, ◌+◌, ◌-◌, ◌++◌, add-one, ap, sym, ◌∙◌, append-nil, append_assoc, arith, drop, map}
use Rattle.std.proofs.lemmas.Result.{on_ok_weaker}
use Rattle.tree_arena.specs.Children.{child_of}
use Rattle.tree_arena.specs.Rows.{plain_row, with_number}
use Rattle.tree_construction.specs.Document.{Row}
use Rattle.tree_lines.specs.Lines.{child_lines, children_lines, lines_within, node_lines, own_lines}
use Rattle.tree_lines.proofs.Appended.{appended-all, appended-more, children-more, children-none}
use Rattle.tree_lines.proofs.Trees.{lines_of_node, no_levels}
use Rattle.tree_lines.proofs.tree.+nodes.Goals as goal

pub push_children-loop-child-preserved : goal.push_children-loop-child-preserved
push_children-loop-child-preserved g t c =
    let depth = c.args.depth in
    let lines = node_lines c.args.levels c.args.arena.now.rows depth in
    let items = c.args.children.now in
    let i = c.loop-child.child-index in
    let x = c.child-item.result in
    appended-more c.loop-child.output.items c.push_child.new.output.items (child_lines lines depth (child_of x)) (children_lines lines depth (map child_of (drop (i + 1) items)))
    (children_lines lines depth (map child_of (drop i items))) (c.args.output.now.items ++ children_lines lines depth (map child_of items)) c.in_ok-push_child.ensures
    (children-more child_of lines depth items i x (omega arith) c.child-item.is) c.loop-child.invariant

pub push_children-returns : goal.push_children-returns
push_children-returns g t c =
    let depth = c.args.depth in
    let lines = node_lines c.args.levels c.args.arena.now.rows depth in
    let items = c.args.children.now in
    let i = c.loop-child.child-index in
    appended-all c.loop-child.output.items (children_lines lines depth (map child_of (drop i items))) (c.args.output.now.items ++ children_lines lines depth (map child_of items))
    (children-none child_of lines depth items i (omega arith)) c.loop-child.invariant

pub push_node-returns-then-levels-eq0 : goal.push_node-returns-then-levels-eq0
push_node-returns-then-levels-eq0 g t c =
    let rows = c.args.arena.now.rows in
    let none : c.args.levels ≡ 0 = omega arith in
    let old = c.args.output.now.items in
    sym (ap (λ l. old ++ l) (ap (λ k. node_lines k rows c.args.depth c.args.id.0) none ∙ no_levels rows c.args.depth c.args.id.0) ∙ append-nil old)

pub push_node-returns : goal.push_node-returns
push_node-returns g t c =
    let rows = c.args.arena.now.rows in
    let old = c.args.output.now.items in
    let depth = c.args.depth in
    let below = c.args.levels - 1 in
    let r : Row = with_number c.args.id.0 (plain_row c.in-Some.node.now) in
    let own = own_lines depth r.what in
    let inner = lines_within (node_lines below rows (depth + 1)) (depth + 1) r.contents r.children in
    let whole = lines_of_node c.args.levels below depth (depth + 1) rows c.args.id.0 r (omega arith) (add-one depth) c.in-Some.ensures in
    on_ok_weaker c.push_within.result (λ h. h ∙ (ap (λ l. l ++ inner) c.in_ok-push_own.ensures ∙ (append_assoc old own inner ∙ ap (λ l. old ++ l) (sym whole))))
    c.push_within.ensures
