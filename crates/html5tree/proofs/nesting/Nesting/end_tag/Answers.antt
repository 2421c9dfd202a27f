use Rattle.std.proofs.Common.{ap, ◌∙◌}
use Rattle.std.specs.Prelude.{map}
use Rattle.html5tree.specs.ElementNames.{name_of}
use Rattle.html5tree.specs.Items.Item.{EndTag}
use Rattle.html5tree.specs.Nested.{nested_after}
use Rattle.html5tree.specs.Planned.{plan_said}
use Rattle.html5tree.specs.Searches.{names_open}
use Rattle.html5tree.proofs.Nests.{end-nested, end-ready}
use Rattle.html5tree.proofs.nesting.Nesting.end_tag.Goals as goal

pub invariant_of-self-2 : goal.invariant_of-self-2
invariant_of-self-2 g c =
    end-ready c.self.inside.limit c.deref.result.now c.self.inside.opened.items (name_of c.args.name) (plan_said c.plan_for_end-plan.result) (names_open c.follow.new.names.items)
    c.plan_for_end-plan.ensures c.deref.ensures.value c.in_ok-follow.ensures.names c.self.invariant

pub returns-clause-ok : goal.returns-clause-ok
returns-clause-ok g c =
    end-nested c.self.inside.limit c.deref.result.now c.self.inside.opened.items (map name_of c.self.inside.closed.items) (map name_of c.follow.new.closed.items)
    (name_of c.args.name) (plan_said c.plan_for_end-plan.result) (names_open c.follow.new.names.items) c.plan_for_end-plan.ensures c.deref.ensures.value c.in_ok-follow.ensures.names c.in_ok-follow.ensures.closed
    ∙ ap (λ v. nested_after v (EndTag (name_of c.args.name))) c.self.view_is
