use Rattle.std.proofs.Common.{[], ap, ◌∙◌}
use Rattle.std.specs.Prelude.{map}
use Rattle.html5tree.specs.ElementNames.{name_of}
use Rattle.html5tree.specs.Items.Item.{StartTag}
use Rattle.html5tree.specs.Nested.{nested_after}
use Rattle.html5tree.specs.Normal.{moved, plan_of}
use Rattle.html5tree.specs.Planned.{plan_said}
use Rattle.html5tree.specs.Searches.{names_open}
use Rattle.html5tree.proofs.Nests.{start-nested, start-ready}
use Rattle.html5tree.proofs.nesting.Nesting.start_tag.Goals as goal

pub invariant_of-self-2 : goal.invariant_of-self-2
invariant_of-self-2 g c =
    start-ready c.self.inside.limit c.deref.result.now c.self.inside.opened.items (name_of c.args.name) [] (plan_said c.plan_for_start-plan.result)
    (names_open c.follow.new.names.items) (c.plan_for_start-plan.ensures []) c.deref.ensures.value
    (c.in_ok-follow.ensures.names ∙ c.own_of.ensures (moved (plan_said c.plan_for_start-plan.result) (names_open c.self.inside.opened.items)) []) c.self.invariant

pub returns-clause-plan : goal.returns-clause-plan
returns-clause-plan g c =
    λ attributes.
    c.plan_for_start-plan.ensures attributes ∙ (ap (λ xs. plan_of c.self.inside.limit (names_open xs) (StartTag (name_of c.args.name) attributes)) c.deref.ensures.value
    ∙ ap (λ v. plan_of v.limit v.opened (StartTag (name_of c.args.name) attributes)) c.self.view_is)

pub returns-clause-ok : goal.returns-clause-ok
returns-clause-ok g c =
    λ attributes.
    start-nested c.self.inside.limit c.deref.result.now c.self.inside.opened.items (map name_of c.self.inside.closed.items) (map name_of c.follow.new.closed.items)
    (name_of c.args.name) attributes (plan_said c.plan_for_start-plan.result) (names_open c.follow.new.names.items) (c.plan_for_start-plan.ensures attributes) c.deref.ensures.value
    (c.in_ok-follow.ensures.names ∙ c.own_of.ensures (moved (plan_said c.plan_for_start-plan.result) (names_open c.self.inside.opened.items)) attributes)
    c.in_ok-follow.ensures.closed
    ∙ ap (λ v. nested_after v (StartTag (name_of c.args.name) attributes)) c.self.view_is
