use Rattle.std.proofs.Common.{refl}
use Rattle.html5places.proofs.HandingOn.{nothing-handed}
use Rattle.html5places.proofs.reader.PlaceReader.end.Goals as goal

pub returns-then-self-clause-stops : goal.returns-then-self-clause-stops
returns-then-self-clause-stops g c = λ B before there.
    nothing-handed g.H.PlacedHandler.step (g.H.PlacedHandler.state c.args.handler.now) (g.H.PlacedHandler.state c.args.handler.now) _ refl
