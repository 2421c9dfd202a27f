use Rattle.html5placed.proofs.Calls.{ends-page, loses-end, when-err, when-ok}
use Rattle.html5placed.proofs.session.PlacedSession.end_read.Goals as goal

pub returns-in-Ok-clause-ends : goal.returns-in-Ok-clause-ends
returns-in-Ok-clause-ends g c =
    ends-page _ _ c.self.view_is _ c.requires (when-ok c.read_end-reader.result.1 c.in-Ok.field-0 c.in-Ok.is c.read_end-reader.ensures.reads)

pub returns-in-Err-clause-loses : goal.returns-in-Err-clause-loses
returns-in-Err-clause-loses g c =
    loses-end _ _ c.self.view_is _ (when-err c.read_end-reader.result.1 c.in-Err.field-0 c.in-Err.is c.read_end-reader.ensures.stops) c.read_end-reader.ensures.over
