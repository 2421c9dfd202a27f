use Rattle.std.proofs.Common.{◌≡◌, ◌+◌, ◌-◌, ap, arith, subst, sym, ◌∙◌}
use Rattle.html5tree.proofs.OpenNames.{IsRun, run-all, run-more, run-none, run-stops}
use Rattle.html5tree.specs.Searches.{implied_before}
use Rattle.html5tree.proofs.searches.implied_run.Goals as goal

pub loop-at-init : goal.loop-at-init
loop-at-init c = run-none (implied_before c.args.before_text) c.args.opened.now

pub loop-at-preserved : goal.loop-at-preserved
loop-at-preserved c =
    let less : c.loop-at.at - 1 + 1 ≡ c.loop-at.at = omega arith in
    run-more (implied_before c.args.before_text) c.args.opened.now c.loop-at.at (c.loop-at.at - 1) c.index-opened-at.result less c.index-opened-at.is
    c.loop-at.invariant (ap (implied_before c.args.before_text) (sym c.kind.ensures) ∙ (sym c.is_implied.ensures ∙ c.if-not-is_implied.false))

pub returns-then-not-is_implied : goal.returns-then-not-is_implied
returns-then-not-is_implied c =
    let less : c.loop-at.at - 1 + 1 ≡ c.loop-at.at = omega arith in
    run-stops (implied_before c.args.before_text) c.args.opened.now c.loop-at.at (c.loop-at.at - 1) c.index-opened-at.result less c.index-opened-at.is
    c.loop-at.invariant (ap (implied_before c.args.before_text) (sym c.kind.ensures) ∙ (sym c.is_implied.ensures ∙ c.if-not-is_implied.true))

pub returns : goal.returns
returns c =
    run-all (implied_before c.args.before_text) c.args.opened.now
    (subst (λ n. IsRun (implied_before c.args.before_text) c.args.opened.now n) (omega arith) c.loop-at.invariant)
