use Rattle.std.proofs.Common.{sym, ◌∙◌}
use Rattle.tree_names.proofs.Loops.{foreign-here, foreign-none}
use Rattle.tree_names.proofs.adjusting.foreign_attribute.Goals as goal

pub returns-then-eq-clause-some : goal.returns-then-eq-clause-some
returns-then-eq-clause-some c = λ cases.
    c.loop-row.invariant cases
    ∙ foreign-here c.foreign_attributes-row-items.result.now c.loop-row.row-index c.args.name.now cases _ c.loop-row-test.true (sym c.eq.ensures ∙ c.if-eq.true)

pub returns-clause-none : goal.returns-clause-none
returns-clause-none c = λ cases.
    c.loop-row.invariant cases ∙ foreign-none c.foreign_attributes-row-items.result.now c.loop-row.row-index c.args.name.now cases c.loop-row-test.false
