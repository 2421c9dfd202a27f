use Rattle.std.proofs.Common.{◌-◌, length, sym, ◌∙◌, arith}
use Rattle.markup5ever.proofs.NameOrder.{same_by_ends}
use Rattle.markup5ever.proofs.data.is_same.Goals as goal
use Rattle.markup5ever.proofs.data.is_same.Goals.{then-starts_with, else-starts_with}

pub returns-then-len-le8 : goal.returns-then-len-le8
returns-then-len-le8 c =
    elim c.if-starts_with.branch [
      | then-starts_with w ↦ λ yes. same_by_ends c.args.name.now c.args.other.now (length c.args.name.now - 4) c.if-len-other.false c.if-len-ge4.true (omega arith) (sym c.starts_with.ensures.value ∙ w.if-starts_with.true) (sym w.starts_with-then-starts_with.ensures.value ∙ sym w.result-is ∙ yes)
      | else-starts_with w ↦ λ yes. absurd cc
    ]
