use Rattle.std.proofs.Common.{◌≡◌, ◌+◌, ◌-◌, ap, arith, length, rules, vec_len}
use Rattle.std.proofs.lemmas.List.{length-reverse}
use Rattle.tree_lists.proofs.Reversed.{at-reverse, removed-reverse}
use Rattle.tree_lists.proofs.stack.Stack.remove_at.Goals as goal

pub overflow_sub-at : goal.overflow_sub-at
overflow_sub-at g c =
    let len : vec_len c.self.inside.items ≡ length c.self.inside.items.items = search rules in
    let lens = length-reverse c.self.inside.items.items in
    let view = ap length c.self.view_is in
    omega arith

pub overflow_sub-at-2 : goal.overflow_sub-at-2
overflow_sub-at-2 g c =
    let len : vec_len c.self.inside.items ≡ length c.self.inside.items.items = search rules in
    let lens = length-reverse c.self.inside.items.items in
    let view = ap length c.self.view_is in
    omega arith

pub remove-requires : goal.remove-requires
remove-requires g c =
    let len : vec_len c.self.inside.items ≡ length c.self.inside.items.items = search rules in
    let lens = length-reverse c.self.inside.items.items in
    let view = ap length c.self.view_is in
    omega arith

pub returns-clause-item : goal.returns-clause-item
returns-clause-item g c =
    let len : vec_len c.self.inside.items ≡ length c.self.inside.items.items = search rules in
    let lens = length-reverse c.self.inside.items.items in
    let view = ap length c.self.view_is in
    let sum : c.args.depth + (c.len.result - c.args.depth - 1 + 1) ≡ length c.self.inside.items.items = omega arith in
    rw (← c.self.view_is) (at-reverse c.self.inside.items.items c.args.depth (c.len.result - c.args.depth - 1) c.remove.result sum c.remove.ensures.value)

pub returns-clause-list : goal.returns-clause-list
returns-clause-list g c =
    let len : vec_len c.self.inside.items ≡ length c.self.inside.items.items = search rules in
    let lens = length-reverse c.self.inside.items.items in
    let view = ap length c.self.view_is in
    let sum : c.args.depth + (c.len.result - c.args.depth - 1 + 1) ≡ length c.self.inside.items.items = omega arith in
    rw (← c.self.view_is) (removed-reverse c.self.inside.items.items c.remove.new.self.items c.args.depth (c.len.result - c.args.depth - 1) sum c.remove.ensures.by_index.2)
