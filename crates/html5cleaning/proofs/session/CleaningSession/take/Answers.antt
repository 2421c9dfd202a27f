use Rattle.html5cleaning.proofs.Fed.{stays_fed}
use Rattle.html5cleaning.proofs.session.CleaningSession.take.Goals as goal

pub returns-clause-fed : goal.returns-clause-fed
returns-clause-fed g c = stays_fed _ _ c.take_bytes.result c.take_bytes.ensures.taken
