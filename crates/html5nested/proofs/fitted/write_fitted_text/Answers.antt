use Rattle.html5tree.specs.Items.Item.{Text}
use Rattle.html5tree.specs.Planned.{plan_said}
use Rattle.html5nested.proofs.Nesting.{adds-planned}
use Rattle.html5nested.proofs.fitted.write_fitted_text.Goals as goal

pub returns : goal.returns
returns g c =
    adds-planned c.write_planned.result c.args.page.now c.write_planned.new.page (Text c.args.text.now) (plan_said c.in_ok-plan.plan) c.args.nesting.now c.text.new.self
    c.in_ok-plan.ensures.plan c.in_ok-plan.ensures.ok _ c.closed.ensures c.write_planned.ensures
