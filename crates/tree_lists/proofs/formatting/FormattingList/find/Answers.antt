use Rattle.std.proofs.Common.{◌≡◌, ◌≤◌, ◌+◌, drop, false, refl, subst, sym, length, arith, ◌∙◌}
use Rattle.std.proofs.lemmas.List.{take_all}
use Rattle.tree_construction.specs.Formatting.{has_entry}
use Rattle.tree_lists.proofs.ListPlaces.{none-listed, passed-listed, stands-listed}
use Rattle.tree_lists.specs.Formatting.{entry_of}
use Rattle.tree_lists.proofs.formatting.FormattingList.find.Goals as goal

pub loop-depth-init : goal.loop-depth-init
unfolding has_entry
loop-depth-init g c = refl

pub returns-then-is_of : goal.returns-then-is_of
returns-then-is_of g c =
    stands-listed (g.H.NodeHandle.node c.args.handle) c.args.self.now c.loop-depth.depth (entry_of g.H.NodeHandle.node g.T.TagAttributes.said c.at.result.now)
    c.loop-depth.invariant c.at.ensures (sym c.is_of.ensures ∙ c.if-is_of.true)

pub loop-depth-preserved : goal.loop-depth-preserved
loop-depth-preserved g c =
    passed-listed (g.H.NodeHandle.node c.args.handle) c.args.self.now c.loop-depth.depth (entry_of g.H.NodeHandle.node g.T.TagAttributes.said c.at.result.now) (drop (c.loop-depth.depth + 1) c.args.self.now)
    c.loop-depth.invariant c.at.ensures (sym c.is_of.ensures ∙ c.if-is_of.false)

pub returns : goal.returns
returns g c =
    let all : length c.args.self.now ≤ c.loop-depth.depth = omega arith in
    none-listed (g.H.NodeHandle.node c.args.handle) c.args.self.now
    (subst (λ ys. has_entry (g.H.NodeHandle.node c.args.handle) ys ≡ false) (take_all c.loop-depth.depth c.args.self.now all) c.loop-depth.invariant)
