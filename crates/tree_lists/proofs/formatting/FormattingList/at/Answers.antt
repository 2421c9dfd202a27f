use Rattle.tree_lists.proofs.Mapped.{at-mapped}
use Rattle.tree_lists.specs.Formatting.{entry_of}
use Rattle.tree_lists.proofs.formatting.FormattingList.at.Goals as goal

pub returns : goal.returns
returns g c = rw (← c.self.view_is) (at-mapped (entry_of g.H.NodeHandle.node g.T.TagAttributes.said) c.self.inside.items c.args.depth _ c.at.ensures)
