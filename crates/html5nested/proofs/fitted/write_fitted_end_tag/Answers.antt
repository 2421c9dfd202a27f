use Rattle.std.proofs.Common.{ap, ◌∙◌}
use Rattle.html5tree.specs.Items.Item.{EndTag}
use Rattle.html5tree.specs.Nested.{nested_after}
use Rattle.html5tree.specs.Normal.{plan_of}
use Rattle.html5tree.specs.Planned.{plan_said}
use Rattle.html5nested.proofs.Nesting.{adds-passed, adds-planned}
use Rattle.html5nested.proofs.fitted.write_fitted_end_tag.Goals as goal

pub returns-in_default : goal.returns-in_default
returns-in_default g c = adds-passed c.args.page.now c.args.nesting.now (EndTag c.args.name.now) c.pass.ensures.end

pub returns : goal.returns
returns g c =
    let was = c.args.nesting.now in
    adds-planned c.write_planned.result c.args.page.now c.write_planned.new.page (EndTag c.args.name.now) (plan_said c.in_ok-plan.plan) was c.end_tag.new.self
    (c.in_ok-plan.ensures.plan ∙ ap (λ n. plan_of was.limit was.opened (EndTag n)) c.in-Some.ensures.found)
    (c.in_ok-plan.ensures.ok ∙ ap (λ n. nested_after was (EndTag n)) c.in-Some.ensures.found)
    _ c.closed.ensures c.write_planned.ensures
