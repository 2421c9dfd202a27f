use Rattle.std.proofs.Common.{sym, subst, ◌∙◌}
use Rattle.html5policy.specs.Policy.{PolicyOf}
use Rattle.html5policy.specs.Rules.{IsSound}
use Rattle.html5policy.proofs.Soundness.{sound-with_rule}
use Rattle.html5policy.proofs.policy.Policy.add.Goals as goal

pub invariant_of-self-2 : goal.invariant_of-self-2
invariant_of-self-2 g c = (
  subst (λ (p : PolicyOf). IsSound p) (sym c.in_ok-push.ensures.ok) (sound-with_rule _ _ c.self.invariant.0 (sym c.fault_of.ensures ∙ c.in_default.is)),
  c.in_ok-push.ensures.marked c.self.invariant.1,
)

pub returns-clause-sound : goal.returns-clause-sound
returns-clause-sound g c =
    subst (λ (p : PolicyOf). IsSound p) (sym c.in_ok-push.ensures.ok) (sound-with_rule _ _ c.self.invariant.0 (sym c.fault_of.ensures ∙ c.in_default.is))
