use Rattle.std.proofs.Common.{ap, sym, ◌∙◌}
use Rattle.html5tree.specs.ElementNames.{name_of}
use Rattle.html5tree.specs.Names.{is_void}
use Rattle.html5tree.proofs.Nests.{own-void, own-written}
use Rattle.html5tree.proofs.nesting.own_of.Goals as goal

pub returns-in-Itself : goal.returns-in-Itself
returns-in-Itself c =
    λ stack attributes.
    own-written c.args.plan.writes stack (name_of c.args.name) attributes c.in-Itself.is
    (ap is_void (sym c.kind.ensures) ∙ (sym c.is_void.ensures ∙ c.if-not-is_void.true))

pub returns-in_default : goal.returns-in_default
returns-in_default c =
    λ stack attributes.
    own-void c.args.plan.writes stack (name_of c.args.name) attributes c.in-Itself.is
    (ap is_void (sym c.kind.ensures) ∙ (sym c.is_void.ensures ∙ c.if-not-is_void.false))
