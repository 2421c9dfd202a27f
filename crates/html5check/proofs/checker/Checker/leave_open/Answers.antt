use Rattle.std.proofs.Common.{ap, ◌∙◌}
use Rattle.html5check.proofs.Checked.{one-more}
use Rattle.html5check.specs.Checking.{left_open}
use Rattle.html5check.proofs.checker.Checker.leave_open.Goals as goal

pub loop-preserved : goal.loop-preserved
loop-preserved c = c.in_ok-leave_one_open.ensures ∙ ap (left_open 1) c.loop.invariant ∙ one-more c.loop.counter c.args.self.now
