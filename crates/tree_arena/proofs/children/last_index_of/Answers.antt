use Rattle.std.proofs.Common.{◌≡◌, ◌-◌, ap, arith, drop, sym, ◌∙◌}
use Rattle.tree_arena.specs.Children.{children_of, has_node}
use Rattle.tree_arena.proofs.ChildLists.{passed-more, passed-none, stands-last, stands-nowhere}
use Rattle.tree_arena.proofs.children.last_index_of.Goals as goal

pub loop-at-init : goal.loop-at-init
loop-at-init g c = record { within = omega arith; passed = passed-none c.args.node.0 c.args.children.now }

pub loop-at-preserved : goal.loop-at-preserved
loop-at-preserved g c =
    let w = c.loop-at.invariant.within in
    record {
      within = omega arith;
      passed = passed-more c.args.node.0 c.args.children.now c.loop-at.at (c.loop-at.at - 1) c.index-children-at.result (omega arith) w c.index-children-at.is
          c.loop-at.invariant.passed (sym c.is_node.ensures ∙ c.if-is_node.false);
    }

pub returns-then-is_node : goal.returns-then-is_node
returns-then-is_node g c =
    stands-last c.args.node.0 c.args.children.now c.loop-at.at (c.loop-at.at - 1) c.index-children-at.result (omega arith) c.loop-at.invariant.within
    c.index-children-at.is c.loop-at.invariant.passed (sym c.is_node.ensures ∙ c.if-is_node.true)

pub returns : goal.returns
returns g c =
    let none : c.loop-at.at ≡ 0 = omega arith in
    stands-nowhere c.args.node.0 c.args.children.now
    (ap (λ k. has_node c.args.node.0 (children_of (drop k c.args.children.now))) (sym none) ∙ c.loop-at.invariant.passed)
