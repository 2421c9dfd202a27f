use Rattle.std.proofs.Common.{sym, ◌∙◌, add-one, arith}
use Rattle.markup5ever.proofs.NameOrder.{cmp-past_same, cmp-differs, cmp-past_end}
use Rattle.markup5ever.proofs.data.order_of_bytes.Goals as goal

pub returns-then-name-at : goal.returns-then-name-at
returns-then-name-at c =
    c.cmp.ensures
    ∙ sym (c.loop-at.invariant ∙ cmp-differs c.args.name.now c.args.other.now c.loop-at.at (omega arith) (omega arith) c.if-name-at.true)

pub loop-at-preserved : goal.loop-at-preserved
loop-at-preserved c =
    rw add-one (c.loop-at.invariant ∙ cmp-past_same c.args.name.now c.args.other.now c.loop-at.at (omega arith) (omega arith) c.if-name-at.false)

pub returns : goal.returns
returns c =
    c.cmp-2.ensures
    ∙ sym (c.loop-at.invariant ∙ cmp-past_end c.args.name.now c.args.other.now c.loop-at.at (omega arith) (omega arith) (omega arith))
