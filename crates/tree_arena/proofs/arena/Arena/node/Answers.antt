use Rattle.std.proofs.Common.{◌≡◌, ap, arith, length, rules, sym, vec_len, ◌∙◌}
use Rattle.tree_construction.specs.Document.{row_of}
use Rattle.tree_arena.specs.Rows.{IsAt, plain_row, with_number}
use Rattle.tree_arena.proofs.NodeRows.{read-row}
use Rattle.tree_arena.proofs.arena.Arena.node.Goals as goal

pub returns-in-Some : goal.returns-in-Some
returns-in-Some g c =
    let items = c.self.inside.nodes.items in
    let len : vec_len c.self.inside.nodes ≡ length items = search rules in
    let count = c.len.ensures in
    let within = c.in-Some.ensures.within in
    let at : IsAt c.args.id.0 c.in-Some.at (length items) = record { within = omega arith; number = c.in-Some.ensures.number } in
    ap (λ v. row_of c.args.id.0 v.rows) (sym c.self.view_is)
    ∙ (read-row items c.in-Some.at c.args.id.0 c.index.result.now at ∙ ap (λ x. with_number c.args.id.0 (plain_row x)) (sym c.index.ensures))
