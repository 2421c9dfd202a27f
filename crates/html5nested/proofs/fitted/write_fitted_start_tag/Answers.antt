use Rattle.std.proofs.Common.{ap, ◌∙◌, map}
use Rattle.html5tree.specs.Items.Item.{StartTag}
use Rattle.html5tree.specs.Nested.{nested_after}
use Rattle.html5tree.specs.Normal.{plan_of}
use Rattle.html5tree.specs.Planned.{plan_said}
use Rattle.html5nested.specs.Adding.{attribute_said}
use Rattle.html5nested.proofs.Nesting.{adds-passed, adds-planned}
use Rattle.html5nested.proofs.fitted.write_fitted_start_tag.Goals as goal

pub returns-in_default : goal.returns-in_default
returns-in_default g c =
    let attributes = map attribute_said c.args.attributes.now in
    adds-passed c.args.page.now c.args.nesting.now (StartTag c.args.name.now attributes) (c.pass.ensures.start attributes)

pub returns : goal.returns
returns g c =
    let was = c.args.nesting.now in
    let attributes = map attribute_said c.args.attributes.now in
    adds-planned c.write_planned.result c.args.page.now c.write_planned.new.page (StartTag c.args.name.now attributes) (plan_said c.in_ok-plan.plan) was c.start_tag.new.self
    (c.in_ok-plan.ensures.plan attributes ∙ ap (λ n. plan_of was.limit was.opened (StartTag n attributes)) c.in-Some.ensures.found)
    (c.in_ok-plan.ensures.ok attributes ∙ ap (λ n. nested_after was (StartTag n attributes)) c.in-Some.ensures.found)
    _ c.closed.ensures c.write_planned.ensures
