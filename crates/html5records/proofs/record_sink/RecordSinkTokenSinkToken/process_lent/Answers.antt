use Rattle.std.proofs.Common.{refl}
use Rattle.html5records.specs.Recording.{recorded_step}
use Rattle.html5records.proofs.Written.{bytes-more}
use Rattle.html5records.proofs.record_sink.RecordSinkTokenSinkToken.process_lent.Goals as goal

pub returns-in-Ok-clause-steps : goal.returns-in-Ok-clause-steps
unfolding recorded_step
returns-in-Ok-clause-steps g c =
    let s = c.self.inside in
    rw (← c.self.view_is, bytes-more s.taken.bytes s.written.items _ _ s.skipped c.self.invariant c.in-Ok.ensures.ok, c.is_open_after-in_text.ensures) refl
