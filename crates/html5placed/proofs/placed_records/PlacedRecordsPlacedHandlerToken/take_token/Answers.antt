use Rattle.std.proofs.Common.{refl}
use Rattle.html5placed.specs.PlacedRecords.{placed_record}
use Rattle.html5placed.proofs.Written.{bytes-more}
use Rattle.html5placed.proofs.placed_records.PlacedRecordsPlacedHandlerToken.take_token.Goals as goal

pub returns-in-Ok-clause-steps : goal.returns-in-Ok-clause-steps
unfolding placed_record
returns-in-Ok-clause-steps g c =
    let s = c.self.inside in
    rw (← c.self.view_is, bytes-more s.taken.bytes s.written.items _ _ s.skipped c.self.invariant c.in-Ok.ensures.ok, c.passed_after-self-inside.ensures) refl
