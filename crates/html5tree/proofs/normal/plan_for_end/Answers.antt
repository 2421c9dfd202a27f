use Rattle.std.proofs.Common.{ap, sym, ◌∙◌}
use Rattle.html5tree.specs.ElementNames.{name_of}
use Rattle.html5tree.specs.Names.{kind_of}
use Rattle.html5tree.specs.Normal.{lone_end_plan}
use Rattle.html5tree.specs.Searches.{names_open}
use Rattle.html5tree.proofs.CodePlans.{plan-break, plan-closing, plan-lone, same-through}
use Rattle.html5tree.proofs.normal.plan_for_end.Goals as goal

pub returns-then-is : goal.returns-then-is
returns-then-is c =
    c.break_plan.ensures (name_of c.args.name)
    ∙ plan-break c.args.limit (names_open c.args.opened.now) (name_of c.args.name) (sym c.is.ensures ∙ c.if-is.true)

pub returns-then-closes-eq0 : goal.returns-then-closes-eq0
returns-then-closes-eq0 c =
    c.lone_end_plan.ensures ∙ (ap (λ k. lone_end_plan c.args.limit k (names_open c.args.opened.now)) c.kind-kind.ensures
    ∙ plan-lone c.args.limit (names_open c.args.opened.now) (name_of c.args.name) (sym c.is.ensures ∙ c.if-is.false)
    (sym c.if-closes-eq0.true ∙ (c.through-closes.ensures.value
    ∙ same-through (names_open c.args.opened.now) (kind_of (name_of c.args.name)) c.kind-kind.result (name_of c.args.name) _ _ c.ended_by.ensures c.bound_of_end.ensures c.kind-kind.ensures)))

pub returns : goal.returns
returns c =
    plan-closing c.args.limit (names_open c.args.opened.now) (name_of c.args.name) c.through-closes.result (sym c.is.ensures ∙ c.if-is.false)
    (c.through-closes.ensures.value
    ∙ same-through (names_open c.args.opened.now) (kind_of (name_of c.args.name)) c.kind-kind.result (name_of c.args.name) _ _ c.ended_by.ensures c.bound_of_end.ensures c.kind-kind.ensures)
    c.if-closes-eq0.false
