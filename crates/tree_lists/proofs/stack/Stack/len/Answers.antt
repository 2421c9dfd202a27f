use Rattle.std.proofs.Common.{◌≡◌, ap, length, rules, sym, vec_len, ◌∙◌}
use Rattle.std.proofs.lemmas.List.{length-reverse}
use Rattle.tree_lists.proofs.stack.Stack.len.Goals as goal

pub returns : goal.returns
returns g c =
    let len : vec_len c.self.inside.items ≡ length c.self.inside.items.items = search rules in
    c.len.ensures ∙ (len ∙ (sym (length-reverse c.self.inside.items.items) ∙ ap length c.self.view_is))
