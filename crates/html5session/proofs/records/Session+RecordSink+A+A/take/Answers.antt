use Rattle.std.proofs.Common.{refl}
use Rattle.html5session.proofs.SameReadings.{stands_on}
use Rattle.html5session.proofs.records.Session+RecordSink+A+A.take.Goals as goal

pub returns-clause-stands : goal.returns-clause-stands
returns-clause-stands g c = stands_on _ _ c.take.result (rw (← c.self.view_is, ← c.self-inside.view_is, c.take.ensures.taken) refl)
