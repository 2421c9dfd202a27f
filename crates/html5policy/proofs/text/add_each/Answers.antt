use Rattle.std.proofs.Common.{map, sym, ap, ◌∙◌, rules}
use Rattle.std.proofs.lemmas.Result.{err_from_is_err_and}
use Rattle.html5policy.specs.Adding.{naming}
use Rattle.html5policy.specs.Rules.{rule_added}
use Rattle.html5policy.specs.Text.{rules_added, words}
use Rattle.html5policy.proofs.Lines.{fault-of_rule, rules-fault, rules-none, rules-ok}
use Rattle.html5policy.proofs.text.add_each.Goals as goal

pub loop-name-preserved : goal.loop-name-preserved
loop-name-preserved g c = (
  search rules,
  c.loop-name.invariant.1 ∙ ap (λ w. rules_added c.loop-name.policy (map (naming c.args.kind) w)) c.in-Some.ensures.0
      ∙ rules-ok c.loop-name.policy c.add.new.self _ (map (naming c.args.kind) (words c.in-Some.rest.now))
      (ap (rule_added c.loop-name.policy) (sym c.rule_named.ensures) ∙ c.in_ok-add.ensures.added),
)

pub returns-in_err-add : goal.returns-in_err-add
returns-in_err-add g c =
    let p = err_from_is_err_and c.from_residual.result c.from_residual.ensures.1 in
    rw (p.1, p.2)
    (rules-fault _ c.loop-name.policy _ (naming c.args.kind c.in-Some.name.now) (map (naming c.args.kind) (words c.in-Some.rest.now))
    (c.loop-name.invariant.1 ∙ ap (λ w. rules_added c.loop-name.policy (map (naming c.args.kind) w)) c.in-Some.ensures.0)
    (fault-of_rule c.loop-name.policy _ _ _ c.rule_named.ensures c.in_err-add.ensures.fault))

pub returns : goal.returns
returns g c =
    c.loop-name.invariant.1 ∙ ap (λ w. rules_added c.loop-name.policy (map (naming c.args.kind) w)) c.in_default.ensures ∙ rules-none c.loop-name.policy
