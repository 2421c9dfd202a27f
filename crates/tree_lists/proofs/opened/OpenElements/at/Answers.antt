use Rattle.tree_lists.proofs.Mapped.{at-mapped}
use Rattle.tree_lists.specs.Opened.{open_of}
use Rattle.tree_lists.proofs.opened.OpenElements.at.Goals as goal

pub returns : goal.returns
returns g c = rw (← c.self.view_is) (at-mapped (open_of g.H.NodeHandle.node) c.self.inside.items c.args.depth _ c.at.ensures)
