use Rattle.std.proofs.Common.{refl}
use Rattle.html5places.proofs.HandingOn.{nothing-handed}
use Rattle.html5places.proofs.reader.PlaceReader.read_to_token.Goals as goal

pub returns-in-Err-clause-stops : goal.returns-in-Err-clause-stops
returns-in-Err-clause-stops g c = λ B before there.
    nothing-handed g.H.PlacedHandler.step (g.H.PlacedHandler.state c.args.handler.now) (g.H.PlacedHandler.state c.args.handler.now) _ refl
