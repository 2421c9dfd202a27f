use Rattle.std.proofs.Common.{◌≤◌, ◌<◌, ◌+◌, ◌∷◌, ap, arith, drop, length, sym, ◌∙◌}
use Rattle.tree_lists.specs.Formatting.{entry_of, listed_of}
use Rattle.tree_lists.proofs.Searches.{counting-all, counting-found, counting-marker, counting-more, counting-other}
use Rattle.tree_lists.proofs.formatting.FormattingList.earliest_alike.Goals as goal

pub loop-depth-preserved-then-not-is_alike : goal.loop-depth-preserved-then-not-is_alike
loop-depth-preserved-then-not-is_alike g c =
    counting-other (listed_of g.H.NodeHandle.node g.T.TagAttributes.said c.args.element.now).name (listed_of g.H.NodeHandle.node g.T.TagAttributes.said c.args.element.now).attributes (listed_of g.H.NodeHandle.node g.T.TagAttributes.said c.in-Active.other)
    c.args.self.now c.args.total c.loop-depth.seen c.loop-depth.depth c.loop-depth.invariant
    (c.at.ensures ∙ ap (λ x. entry_of g.H.NodeHandle.node g.T.TagAttributes.said x ∷ drop (c.loop-depth.depth + 1) c.args.self.now) c.in-Active.is)
    (sym c.is_alike.ensures ∙ c.if-not-is_alike.true)

pub loop-depth-preserved : goal.loop-depth-preserved
loop-depth-preserved g c =
    counting-more (listed_of g.H.NodeHandle.node g.T.TagAttributes.said c.args.element.now).name (listed_of g.H.NodeHandle.node g.T.TagAttributes.said c.args.element.now).attributes (listed_of g.H.NodeHandle.node g.T.TagAttributes.said c.in-Active.other)
    c.args.self.now c.args.total c.loop-depth.seen c.loop-depth.depth c.loop-depth.invariant
    (c.at.ensures ∙ ap (λ x. entry_of g.H.NodeHandle.node g.T.TagAttributes.said x ∷ drop (c.loop-depth.depth + 1) c.args.self.now) c.in-Active.is)
    (sym c.is_alike.ensures ∙ c.if-not-is_alike.false) c.if-seen-total.false

pub returns-in-Mark : goal.returns-in-Mark
returns-in-Mark g c =
    counting-marker (listed_of g.H.NodeHandle.node g.T.TagAttributes.said c.args.element.now).name (listed_of g.H.NodeHandle.node g.T.TagAttributes.said c.args.element.now).attributes c.args.self.now c.args.total c.loop-depth.seen c.loop-depth.depth c.loop-depth.invariant
    (c.at.ensures ∙ ap (λ x. entry_of g.H.NodeHandle.node g.T.TagAttributes.said x ∷ drop (c.loop-depth.depth + 1) c.args.self.now) c.in-Mark.is)

pub returns-then-seen-total : goal.returns-then-seen-total
returns-then-seen-total g c =
    let within : c.loop-depth.depth < length c.args.self.now = omega arith in
    counting-found (listed_of g.H.NodeHandle.node g.T.TagAttributes.said c.args.element.now).name (listed_of g.H.NodeHandle.node g.T.TagAttributes.said c.args.element.now).attributes (listed_of g.H.NodeHandle.node g.T.TagAttributes.said c.in-Active.other) c.args.self.now c.args.total c.loop-depth.seen c.loop-depth.depth c.loop-depth.invariant
    (c.at.ensures ∙ ap (λ x. entry_of g.H.NodeHandle.node g.T.TagAttributes.said x ∷ drop (c.loop-depth.depth + 1) c.args.self.now) c.in-Active.is)
    (sym c.is_alike.ensures ∙ c.if-not-is_alike.false) c.if-seen-total.true within

pub returns : goal.returns
returns g c =
    let all : length c.args.self.now ≤ c.loop-depth.depth = omega arith in
    counting-all (listed_of g.H.NodeHandle.node g.T.TagAttributes.said c.args.element.now).name (listed_of g.H.NodeHandle.node g.T.TagAttributes.said c.args.element.now).attributes c.args.self.now c.args.total c.loop-depth.seen c.loop-depth.depth c.loop-depth.invariant all
