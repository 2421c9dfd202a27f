use Rattle.tree_lists.proofs.Mapped.{at-mapped, removed-mapped}
use Rattle.tree_lists.specs.Opened.{open_of}
use Rattle.tree_lists.proofs.opened.OpenElements.remove_at.Goals as goal

pub returns-clause-item : goal.returns-clause-item
returns-clause-item g c = rw (← c.self.view_is) (at-mapped (open_of g.H.NodeHandle.node) c.self.inside.items c.args.depth _ c.remove_at.ensures.item)

pub returns-clause-list : goal.returns-clause-list
returns-clause-list g c = rw (← c.self.view_is) (removed-mapped (open_of g.H.NodeHandle.node) c.self.inside.items _ c.args.depth c.remove_at.ensures.list)
