use Rattle.std.proofs.Common.{◌≡◌, ◌+◌, ◌-◌, ap, arith, length, rules, vec_len}
use Rattle.std.proofs.lemmas.List.{length-reverse}
use Rattle.tree_lists.proofs.Reversed.{put-reverse}
use Rattle.tree_lists.proofs.stack.Stack.insert_at.Goals as goal

pub overflow_sub-at : goal.overflow_sub-at
overflow_sub-at g c =
    let len : vec_len c.self.inside.items ≡ length c.self.inside.items.items = search rules in
    let lens = length-reverse c.self.inside.items.items in
    let view = ap length c.self.view_is in
    omega arith

pub returns : goal.returns
returns g c =
    let len : vec_len c.self.inside.items ≡ length c.self.inside.items.items = search rules in
    let lens = length-reverse c.self.inside.items.items in
    let view = ap length c.self.view_is in
    let sum : c.args.depth + (c.len.result - c.args.depth) ≡ length c.self.inside.items.items = omega arith in
    record { ok = rw (← c.self.view_is) (put-reverse c.self.inside.items.items c.insert.new.self.items c.args.item c.args.depth (c.len.result - c.args.depth) sum c.in_ok-insert.ensures.items) }
