use Rattle.std.proofs.Common.{◌≡◌, length, rules, vec_len}
use Rattle.tree_lists.proofs.Reversed.{popped-none, popped-rest, popped-some}
use Rattle.tree_lists.proofs.stack.Stack.pop.Goals as goal

pub returns-clause-none : goal.returns-clause-none
returns-clause-none g c =
    let len : vec_len c.self.inside.items ≡ length c.self.inside.items.items = search rules in
    rw (← c.self.view_is) (popped-none c.pop.result c.self.inside.items.items (vec_len c.self.inside.items) _ _ len c.pop.ensures.cases)

pub returns-clause-some : goal.returns-clause-some
returns-clause-some g c =
    rw (← c.self.view_is) (popped-some c.pop.result c.self.inside.items.items c.pop.new.self.items c.pop.ensures.items)

pub returns-clause-rest : goal.returns-clause-rest
returns-clause-rest g c =
    let len : vec_len c.self.inside.items ≡ length c.self.inside.items.items = search rules in
    rw (← c.self.view_is) (popped-rest c.pop.result c.self.inside.items.items c.pop.new.self.items (vec_len c.self.inside.items) _ _ len c.pop.ensures.items c.pop.ensures.cases)
