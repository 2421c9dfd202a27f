use Rattle.std.proofs.Common.{[], sym, ap, ◌∙◌, rules, arith}
use Rattle.std.proofs.lemmas.Result.{err_from_is_err_and}
use Rattle.html5policy.specs.Text.{lines, lines_added, policy_said}
use Rattle.html5policy.proofs.Lines.{lines-end, lines-err, lines-ok, said-start}
use Rattle.html5policy.proofs.Splits.{lines-last, lines-more}
use Rattle.html5policy.proofs.policy.Policy.parse.Goals as goal

pub loop-line-init : goal.loop-line-init
loop-line-init g c = (
  search rules,
  said-start c.args.text.now ∙ ap (λ p. lines_added p 1 (lines c.args.text.now)) (sym c.new-policy.ensures.nothing),
  omega arith,
)

pub loop-line-preserved : goal.loop-line-preserved
loop-line-preserved g c =
    let parts = lines-more c.loop-line.left.now c.in-Some.line c.in-Some.rest c.in-Some.ensures.byte in (
      search rules,
      c.loop-line.invariant.1 ∙ ap (lines_added c.loop-line.policy c.loop-line.number) parts.0
          ∙ lines-ok c.loop-line.policy c.add_numbered.new.policy c.loop-line.number c.in-Some.line.now (lines c.in-Some.rest.now) c.in_ok-add_numbered.ensures,
      omega (arith, parts.1, c.loop-line.invariant.2),
    )

pub returns-in_err-add_numbered-clause-fault : goal.returns-in_err-add_numbered-clause-fault
returns-in_err-add_numbered-clause-fault g c =
    let parts = lines-more c.loop-line.left.now c.in-Some.line c.in-Some.rest c.in-Some.ensures.byte in
    let p = err_from_is_err_and c.from_residual.result c.from_residual.ensures.1 in
    rw (p.1, p.2)
    (lines-err (policy_said c.args.text.now) c.loop-line.policy _ c.loop-line.number c.in-Some.line.now (lines c.in-Some.rest.now)
    (c.loop-line.invariant.1 ∙ ap (lines_added c.loop-line.policy c.loop-line.number) parts.0) c.in_err-add_numbered.ensures)

pub returns-in_err-add_numbered-2-clause-fault : goal.returns-in_err-add_numbered-2-clause-fault
returns-in_err-add_numbered-2-clause-fault g c =
    let p = err_from_is_err_and c.from_residual-in_err-add_numbered-2.result c.from_residual-in_err-add_numbered-2.ensures.1 in
    rw (p.1, p.2)
    (lines-err (policy_said c.args.text.now) c.loop-line.policy _ c.loop-line.number c.loop-line.left.now []
    (c.loop-line.invariant.1 ∙ ap (lines_added c.loop-line.policy c.loop-line.number) (lines-last c.loop-line.left.now c.in_default.ensures.byte))
    c.in_err-add_numbered-2.ensures)

pub returns-clause-said : goal.returns-clause-said
returns-clause-said g c =
    c.loop-line.invariant.1
    ∙ ap (lines_added c.loop-line.policy c.loop-line.number) (lines-last c.loop-line.left.now c.in_default.ensures.byte)
    ∙ lines-end c.loop-line.policy c.add_numbered-2.new.policy c.loop-line.number c.loop-line.left.now c.in_ok-add_numbered-2.ensures
