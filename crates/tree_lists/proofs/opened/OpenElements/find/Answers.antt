use Rattle.std.proofs.Common.{◌≡◌, ◌≤◌, ◌+◌, drop, false, refl, subst, sym, length, arith, ◌∙◌}
use Rattle.std.proofs.lemmas.List.{take_all}
use Rattle.tree_construction.specs.Page.{has_number, has_open}
use Rattle.tree_lists.proofs.OpenPlaces.{none-open, passed-open, stands-open}
use Rattle.tree_lists.specs.Opened.{open_of}
use Rattle.tree_lists.proofs.opened.OpenElements.find.Goals as goal

pub loop-depth-init : goal.loop-depth-init
unfolding has_open
loop-depth-init g c = refl

pub returns-then-is : goal.returns-then-is
returns-then-is g c =
    stands-open (g.H.NodeHandle.node c.args.handle) c.args.self.now c.loop-depth.depth (open_of g.H.NodeHandle.node c.at.result.now) (drop (c.loop-depth.depth + 1) c.args.self.now)
    c.loop-depth.invariant c.at.ensures (sym c.is.ensures ∙ c.if-is.true)

pub loop-depth-preserved : goal.loop-depth-preserved
loop-depth-preserved g c =
    passed-open (g.H.NodeHandle.node c.args.handle) c.args.self.now c.loop-depth.depth (open_of g.H.NodeHandle.node c.at.result.now) (drop (c.loop-depth.depth + 1) c.args.self.now)
    c.loop-depth.invariant c.at.ensures (sym c.is.ensures ∙ c.if-is.false)

pub returns : goal.returns
returns g c =
    let all : length c.args.self.now ≤ c.loop-depth.depth = omega arith in
    none-open (g.H.NodeHandle.node c.args.handle) c.args.self.now
    (subst (λ ys. has_open (has_number (g.H.NodeHandle.node c.args.handle)) ys ≡ false) (take_all c.loop-depth.depth c.args.self.now all) c.loop-depth.invariant)
