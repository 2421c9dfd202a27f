use Rattle.std.proofs.Common.{sym, ◌∙◌, arith}
use Rattle.html5check.proofs.Opening.{reaches-further, reaches-none, reaches-this}
use Rattle.html5check.proofs.open_elements.closed_by.Goals as goal

pub returns-then-eq : goal.returns-then-eq
returns-then-eq c =
    sym (c.loop-i.invariant ∙ reaches-this c.args.elements.now c.args.name.now c.loop-i.i _ (omega arith) (omega arith) (sym c.eq.ensures ∙ c.if-eq.true))

pub loop-i-preserved : goal.loop-i-preserved
loop-i-preserved c =
    c.loop-i.invariant ∙ reaches-further c.args.elements.now c.args.name.now c.loop-i.i _ (omega arith) (omega arith) (sym c.eq.ensures ∙ c.if-eq.false)

pub returns : goal.returns
returns c = sym (c.loop-i.invariant ∙ reaches-none c.args.elements.now c.args.name.now c.loop-i.i (omega arith))
