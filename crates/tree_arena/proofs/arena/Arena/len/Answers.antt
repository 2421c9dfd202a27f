use Rattle.std.proofs.Common.{◌≡◌, ap, length, rules, sym, vec_len, ◌∙◌}
use Rattle.tree_arena.proofs.NodeRows.{length-rows}
use Rattle.tree_arena.proofs.arena.Arena.len.Goals as goal

pub returns : goal.returns
returns g c =
    let len : vec_len c.self.inside.nodes ≡ length c.self.inside.nodes.items = search rules in
    c.len.ensures ∙ (len ∙ (sym (length-rows c.self.inside.nodes.items) ∙ ap (λ v. length v.rows) c.self.view_is))
