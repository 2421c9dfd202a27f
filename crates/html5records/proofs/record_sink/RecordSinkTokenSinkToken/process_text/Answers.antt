use Rattle.std.proofs.Common.{refl}
use Rattle.html5records.specs.Recording.{recorded_step, added_by}
use Rattle.html5records.proofs.Written.{bytes-more}
use Rattle.html5records.proofs.record_sink.RecordSinkTokenSinkToken.process_text.Goals as goal

pub returns-in-Ok-clause-writes : goal.returns-in-Ok-clause-writes
unfolding recorded_step added_by
returns-in-Ok-clause-writes g c =
    let s = c.self.inside in
    rw (← c.self.view_is, bytes-more s.taken.bytes s.written.items _ _ s.skipped c.self.invariant c.in-Ok.ensures.ok, c.is_open_after_text-self-inside.ensures, c.as_bytes-text.ensures.value) refl
