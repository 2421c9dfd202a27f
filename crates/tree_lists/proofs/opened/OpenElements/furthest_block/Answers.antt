use Rattle.std.proofs.Common.{sym, ◌∙◌}
use Rattle.tree_lists.proofs.OpenPlaces.{block-other, block-special}
use Rattle.tree_lists.specs.Opened.{open_of}
use Rattle.tree_lists.proofs.opened.OpenElements.furthest_block.Goals as goal

pub loop-depth-preserved-then-not-is_special : goal.loop-depth-preserved-then-not-is_special
loop-depth-preserved-then-not-is_special g c =
    block-other (g.H.NodeHandle.node c.args.handle) c.args.self.now c.loop-depth.depth (open_of g.H.NodeHandle.node c.at-element.result.now) c.loop-depth.block c.at-element.ensures
    (sym c.is.ensures ∙ c.if-is.false) (sym c.is_special.ensures ∙ c.if-not-is_special.true)
    ∙ c.loop-depth.invariant

pub loop-depth-preserved : goal.loop-depth-preserved
loop-depth-preserved g c =
    block-special (g.H.NodeHandle.node c.args.handle) c.args.self.now c.loop-depth.depth (open_of g.H.NodeHandle.node c.at-element.result.now) c.loop-depth.block c.at-element.ensures
    (sym c.is.ensures ∙ c.if-is.false) (sym c.is_special.ensures ∙ c.if-not-is_special.false)
    ∙ c.loop-depth.invariant
