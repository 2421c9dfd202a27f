use Rattle.std.proofs.Common.{refl, subst, sym}
use Rattle.html5places.specs.Readers.{NothingWaits, Reader}
use Rattle.html5places.proofs.reader.detached.DetachedPlaceReader.attach.Goals as goal

pub invariant_of-result : goal.invariant_of-result
invariant_of-result g c = λ going.
    let waits = c.self.invariant going in
    subst (λ (t : Reader). NothingWaits t c.self.inside.queue c.args.references.now) (sym c.attach.ensures)
    (record { kept = waits.kept; queued = waits.queued; not_failed = waits.not_failed; not_ended = waits.not_ended; table = refl })
