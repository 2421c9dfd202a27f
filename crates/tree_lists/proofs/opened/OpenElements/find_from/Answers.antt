use Rattle.std.proofs.Common.{◌≡◌, ◌≤◌, ◌+◌, drop, false, refl, subst, sym, length, arith, ◌∙◌}
use Rattle.std.proofs.lemmas.List.{length-drop, take_all}
use Rattle.tree_construction.specs.Page.{has_number, has_open}
use Rattle.tree_lists.proofs.OpenPlaces.{drop-twice, none-open, passed-open, stands-open}
use Rattle.tree_lists.specs.Opened.{open_of}
use Rattle.tree_lists.proofs.opened.OpenElements.find_from.Goals as goal

pub loop-count-init : goal.loop-count-init
unfolding has_open
loop-count-init g c = refl

pub returns-then-is : goal.returns-then-is
returns-then-is g c =
    stands-open (g.H.NodeHandle.node c.args.handle) (drop c.args.from c.args.self.now) c.loop-count.count (open_of g.H.NodeHandle.node c.at.result.now) (drop (c.args.from + c.loop-count.count + 1) c.args.self.now)
    c.loop-count.invariant (drop-twice c.args.from c.loop-count.count c.args.self.now ∙ c.at.ensures) (sym c.is.ensures ∙ c.if-is.true)

pub loop-count-preserved : goal.loop-count-preserved
loop-count-preserved g c =
    passed-open (g.H.NodeHandle.node c.args.handle) (drop c.args.from c.args.self.now) c.loop-count.count (open_of g.H.NodeHandle.node c.at.result.now) (drop (c.args.from + c.loop-count.count + 1) c.args.self.now)
    c.loop-count.invariant (drop-twice c.args.from c.loop-count.count c.args.self.now ∙ c.at.ensures) (sym c.is.ensures ∙ c.if-is.false)

pub returns : goal.returns
returns g c =
    let around = length-drop c.args.from c.args.self.now in
    let all : length (drop c.args.from c.args.self.now) ≤ c.loop-count.count = omega arith in
    none-open (g.H.NodeHandle.node c.args.handle) (drop c.args.from c.args.self.now)
    (subst (λ ys. has_open (has_number (g.H.NodeHandle.node c.args.handle)) ys ≡ false) (take_all c.loop-count.count (drop c.args.from c.args.self.now) all) c.loop-count.invariant)
