use Rattle.std.proofs.Common.{◌∙◌}
use Rattle.html5tree.specs.ElementNames.{name_of}
use Rattle.html5tree.specs.Searches.{names_open}
use Rattle.html5tree.proofs.CodePlans.{plan-start-at}
use Rattle.html5tree.proofs.normal.plan_for_start.Goals as goal

pub returns : goal.returns
returns c =
    λ attributes.
    c.limited.ensures ∙ plan-start-at c.args.limit (names_open c.args.opened.now) (name_of c.args.name) attributes c.kind-kind.result _ c.opened_by.result
    c.kind-kind.ensures c.start_plan-plan.ensures c.opened_by.ensures
