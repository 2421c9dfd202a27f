use Rattle.std.proofs.Common.{◌≡◌, ◌<◌, ◌+◌, ◌-◌, ap, arith, length, rules, sym, vec_len, ◌∙◌}
use Rattle.std.proofs.lemmas.List.{length-reverse}
use Rattle.std.specs.Prelude.{reverse}
use Rattle.tree_lists.proofs.Reversed.{drop-reverse, take-reverse}
use Rattle.tree_lists.proofs.stack.Stack.take_front.Goals as goal

pub overflow_sub-at : goal.overflow_sub-at
overflow_sub-at g c =
    let len : vec_len c.self.inside.items ≡ length c.self.inside.items.items = search rules in
    let lens = length-reverse c.self.inside.items.items in
    let view = ap length c.self.view_is in
    omega arith

pub returns-clause-front : goal.returns-clause-front
returns-clause-front g c =
    let len : vec_len c.self.inside.items ≡ length c.self.inside.items.items = search rules in
    let lens = length-reverse c.self.inside.items.items in
    let view = ap length c.self.view_is in
    let sum : c.args.depth + (c.len.result - c.args.depth) ≡ length c.self.inside.items.items = omega arith in
    rw (← c.self.view_is) (ap reverse c.in_ok-items.ensures.tail ∙ sym (take-reverse c.self.inside.items.items c.args.depth (c.len.result - c.args.depth) sum))

pub returns-clause-rest : goal.returns-clause-rest
returns-clause-rest g c =
    let len : vec_len c.self.inside.items ≡ length c.self.inside.items.items = search rules in
    let lens = length-reverse c.self.inside.items.items in
    let view = ap length c.self.view_is in
    let sum : c.args.depth + (c.len.result - c.args.depth) ≡ length c.self.inside.items.items = omega arith in
    rw (← c.self.view_is) (ap reverse c.in_ok-items.ensures.items ∙ sym (drop-reverse c.self.inside.items.items c.args.depth (c.len.result - c.args.depth) sum))
