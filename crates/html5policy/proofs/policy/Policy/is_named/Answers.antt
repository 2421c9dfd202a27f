use Rattle.std.proofs.Common.{sym, ap, ◌∙◌, rules}
use Rattle.html5policy.specs.Policy.{PolicyOf, is_named}
use Rattle.html5policy.specs.Code.{policy_of}
use Rattle.html5policy.proofs.Marking.{unmarked-not_named}
use Rattle.html5policy.proofs.policy.Policy.is_named.Goals as goal

pub returns-then-not-may_have : goal.returns-then-not-may_have
returns-then-not-may_have g c =
    sym (unmarked-not_named _ (policy_of c.self.inside.rules) c.args.element.now c.args.attribute.now c.self.invariant.1 (search rules))
    ∙ ap (λ (p : PolicyOf). is_named p c.args.element.now c.args.attribute.now) c.self.view_is
