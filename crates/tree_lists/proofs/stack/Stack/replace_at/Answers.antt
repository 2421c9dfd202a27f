use Rattle.std.proofs.lemmas.Result.{on_ok_weaker}
use Rattle.tree_lists.proofs.Reversed.{put_back}
use Rattle.tree_lists.proofs.stack.Stack.replace_at.Goals as goal

pub returns : goal.returns
returns g c =
    let h = put_back c.args.depth c.args.self.now c.remove_at.new.self c.insert_at.new.self c.args.item c.requires c.remove_at.ensures.list in
    record { ok = on_ok_weaker c.insert_at.result h c.insert_at.ensures.ok }
