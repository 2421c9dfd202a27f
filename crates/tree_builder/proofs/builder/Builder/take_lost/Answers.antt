use Rattle.tree_builder.proofs.Reopened.{lost-are-formatting}
use Rattle.tree_builder.proofs.builder.Builder.take_lost.Goals as goal

pub returns-clause-kinds : goal.returns-clause-kinds
returns-clause-kinds g c =
    rw (← c.self.view_is)
    (lost-are-formatting g.S.Handle.NodeHandle.node g.T.TagAttributes.said c.in_ok-lost.lost _ c.in_ok-lost.ensures.lost)
