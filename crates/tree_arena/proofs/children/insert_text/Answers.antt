use Rattle.std.proofs.Common.{◌≡◌, ◌-◌, length, arith, rules, vec_len}
use Rattle.std.proofs.lemmas.Result.{on_ok_weaker}
use Rattle.tree_construction.specs.Document.Child.{Text as DocumentText}
use Rattle.tree_arena.proofs.ChildLists.{joined-before}
use Rattle.tree_arena.proofs.children.insert_text.Goals as goal

pub returns-then-is_text : goal.returns-then-is_text
returns-then-is_text g c =
    let len : vec_len c.args.children.now ≡ length c.args.children.now.items = search rules in
    on_ok_weaker c.extend.result
    (joined-before c.args.children.now.items c.args.at (c.args.at - 1) c.index_mut.result.now c.extend.new.child (DocumentText c.args.text.now) (omega arith)
    (omega arith) c.index_mut.ensures.value)
    c.extend.ensures
