use Rattle.std.proofs.Common.{ap, ◌∙◌}
use Rattle.html5places.proofs.Advancing.{position-at}
use Rattle.html5places.proofs.places_in_order.Positions.at.Goals as goal

pub returns-clause-position : goal.returns-clause-position
returns-clause-position c =
    ap (λ k. k.position) (c.onward-self-inside.ensures ∙ c.cursor_before.ensures) ∙ position-at c.args.place c.args.self.now
