use Rattle.std.proofs.lemmas.Result.{on_ok_weaker}
use Rattle.tree_lists.proofs.Mapped.{put-mapped}
use Rattle.tree_lists.specs.Opened.{open_of}
use Rattle.tree_lists.proofs.opened.OpenElements.insert_at.Goals as goal

pub returns : goal.returns
returns g c =
    record { ok = rw (← c.self.view_is) (on_ok_weaker c.insert_at.result (put-mapped (open_of g.H.NodeHandle.node) c.self.inside.items _ c.args.element c.args.depth c.args.depth) c.insert_at.ensures.ok) }
