use Rattle.std.proofs.Common.{refl}
use Rattle.html5session.proofs.Writing.{sets_foreign}
use Rattle.html5session.proofs.records.Session+RecordSink+A+A.set_foreign.Goals as goal

pub returns : goal.returns
returns g c = sets_foreign _ _ c.args.foreign (rw (← c.self.view_is, ← c.self-inside.view_is, c.set_foreign.ensures) refl)
