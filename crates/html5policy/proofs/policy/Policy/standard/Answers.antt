use Rattle.std.proofs.Common.{ap}
use Rattle.html5policy.specs.Standard.{standard_policy}
use Rattle.html5policy.proofs.Lines.{same-policy}
use Rattle.html5policy.proofs.policy.Policy.standard.Goals as goal

pub returns-in-Ok-clause-standard : goal.returns-in-Ok-clause-standard
returns-in-Ok-clause-standard g c = same-policy _ _ _ c.in-Ok.ensures.said c.standard_text.ensures

pub returns-in-Ok-clause-tree : goal.returns-in-Ok-clause-tree
unfolding standard_policy
returns-in-Ok-clause-tree g c = ap (λ policy. policy.tree) (returns-in-Ok-clause-standard g c)
