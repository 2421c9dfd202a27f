use Rattle.std.proofs.Common.{sym, ◌∙◌, add-one, arith}
use Rattle.markup5ever.specs.Names.{attribute_of}
use Rattle.tree_lines.specs.Shown.{seen}
use Rattle.tree_lines.proofs.Order.{past-more, put-here, put-last}
use Rattle.tree_lines.proofs.attributes.place_among.Goals as goal

pub returns-then-comes_before-clause-puts : goal.returns-then-comes_before-clause-puts
returns-then-comes_before-clause-puts g c =
    put-here seen (attribute_of c.args.attribute.now) c.args.ordered.now c.loop-at.at c.index-ordered-at.result (omega arith) c.index-ordered-at.is
    (sym c.comes_before.ensures ∙ c.if-comes_before.true) c.loop-at.invariant

pub loop-at-preserved : goal.loop-at-preserved
loop-at-preserved g c =
    rw add-one (past-more seen (attribute_of c.args.attribute.now) c.args.ordered.now c.loop-at.at c.index-ordered-at.result (omega arith) c.index-ordered-at.is
    (sym c.comes_before.ensures ∙ c.if-comes_before.false) c.loop-at.invariant)

pub returns-clause-puts : goal.returns-clause-puts
returns-clause-puts g c = put-last seen (attribute_of c.args.attribute.now) c.args.ordered.now c.loop-at.at (omega arith) c.loop-at.invariant
