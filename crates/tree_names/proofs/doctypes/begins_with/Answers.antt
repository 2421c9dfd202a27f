use Rattle.std.proofs.Common.{sym, ◌∙◌}
use Rattle.tree_names.proofs.Loops.{begins-past}
use Rattle.tree_names.proofs.doctypes.begins_with.Goals as goal

pub returns-in_default : goal.returns-in_default
returns-in_default c =
    sym (c.loop-letter.invariant
    ∙ begins-past c.args.beginning.now c.loop-letter.left.now c.loop-letter.letter-index c.loop-letter-test.true c.in_default.ensures.cases)
