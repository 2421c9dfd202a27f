use Rattle.std.proofs.Common.{ap, sym, ◌∙◌}
use Rattle.html5places.proofs.HandingOn.{handed-nothing}
use Rattle.html5places.specs.Placed.{handed_on}
use Rattle.html5places.proofs.reading.hand_on_waiting.Goals as goal

pub returns-then-are_none_waiting-clause-all : goal.returns-then-are_none_waiting-clause-all
returns-then-are_none_waiting-clause-all g c =
    let handler = g.H.PlacedHandler.state c.args.handler.now in
    sym (handed-nothing g.H.PlacedHandler.step handler)
    ∙ ap (handed_on g.H.PlacedHandler.step handler) (sym (c.are_none_waiting.ensures c.if-are_none_waiting.true))
