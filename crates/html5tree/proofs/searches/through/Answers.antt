use Rattle.std.proofs.Common.{◌≡◌, ◌+◌, ◌-◌, arith, ap, sym, ◌∙◌, subst}
use Rattle.html5tree.proofs.OpenNames.{IsPassed, passed-all, passed-bound, passed-found, passed-more, passed-none}
use Rattle.html5tree.specs.Searches.{is_bound, is_wanted}
use Rattle.html5tree.proofs.searches.through.Goals as goal

pub loop-at-init : goal.loop-at-init
loop-at-init c = passed-none (is_wanted c.args.wanted) (is_bound c.args.bound) c.args.opened.now

pub returns-then-is-clause-value : goal.returns-then-is-clause-value
returns-then-is-clause-value c =
    let less : c.loop-at.at - 1 + 1 ≡ c.loop-at.at = omega arith in
    passed-found (is_wanted c.args.wanted) (is_bound c.args.bound) c.args.opened.now c.loop-at.at (c.loop-at.at - 1) c.index-opened-at.result less c.index-opened-at.is
    c.loop-at.invariant (sym c.is.ensures ∙ c.if-is.true)

pub returns-then-is-2-clause-value : goal.returns-then-is-2-clause-value
returns-then-is-2-clause-value c =
    let less : c.loop-at.at - 1 + 1 ≡ c.loop-at.at = omega arith in
    passed-bound (is_wanted c.args.wanted) (is_bound c.args.bound) c.args.opened.now c.loop-at.at (c.loop-at.at - 1) c.index-opened-at.result less c.index-opened-at.is
    c.loop-at.invariant (sym c.is.ensures ∙ c.if-is.false) (ap (is_bound c.args.bound) (sym c.kind.ensures) ∙ (sym c.is-in-loop-at.ensures ∙ c.if-is-2.true))

pub loop-at-preserved : goal.loop-at-preserved
loop-at-preserved c =
    let less : c.loop-at.at - 1 + 1 ≡ c.loop-at.at = omega arith in
    passed-more (is_wanted c.args.wanted) (is_bound c.args.bound) c.args.opened.now c.loop-at.at (c.loop-at.at - 1) c.index-opened-at.result less c.index-opened-at.is
    c.loop-at.invariant (sym c.is.ensures ∙ c.if-is.false) (ap (is_bound c.args.bound) (sym c.kind.ensures) ∙ (sym c.is-in-loop-at.ensures ∙ c.if-is-2.false))

pub returns-clause-value : goal.returns-clause-value
returns-clause-value c =
    passed-all (is_wanted c.args.wanted) (is_bound c.args.bound) c.args.opened.now
    (subst (λ n. IsPassed (is_wanted c.args.wanted) (is_bound c.args.bound) c.args.opened.now n) (omega arith) c.loop-at.invariant)
