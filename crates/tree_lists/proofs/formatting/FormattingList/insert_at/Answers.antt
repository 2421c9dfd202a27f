use Rattle.std.proofs.lemmas.Result.{on_ok_weaker}
use Rattle.tree_lists.proofs.Mapped.{put-mapped}
use Rattle.tree_lists.specs.Formatting.{entry_of}
use Rattle.tree_lists.proofs.formatting.FormattingList.insert_at.Goals as goal

pub returns : goal.returns
returns g c =
    record { ok = rw (← c.self.view_is) (on_ok_weaker c.insert_at.result (put-mapped (entry_of g.H.NodeHandle.node g.T.TagAttributes.said) c.self.inside.items _ c.args.entry c.args.depth c.args.depth) c.insert_at.ensures.ok) }
