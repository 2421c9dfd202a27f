use Rattle.std.proofs.Common.{arith}
use Rattle.html5tree.proofs.CodePlans.{depth-moved}
use Rattle.html5tree.specs.Planned.{plan_said}
use Rattle.html5tree.proofs.normal.depth_after.Goals as goal

pub returns-clause-value : goal.returns-clause-value
returns-clause-value c = let d = depth-moved c.args.opened.now (plan_said c.args.plan) in omega (arith, c.saturating_sub.ensures, c.len.ensures.value, d)
