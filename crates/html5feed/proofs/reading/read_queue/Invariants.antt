use Rattle.std.proofs.Common.{◌≡◌, ◌≤◌, ◌+◌, length}
use Rattle.html5reading.specs.Start.{held_len}
use Rattle.html5feed.proofs.QueueReading.{HasRead}
use Rattle.html5feed.proofs.reading.read_queue.Given as goal

abbrev pub invariant-loop-queue : goal.invariant-loop-queue
invariant-loop-queue g l =
    HasRead g.S.TokenSink.means l.rules l.initial.position l.position l.initial.queue l.queue
    (g.S.TokenSink.means.state l.initial.sink) (g.S.TokenSink.means.state l.sink)
    × (g.S.TokenSink.faults l.sink ≡ g.S.TokenSink.faults l.initial.sink)
    × (held_len l.position.opened + length l.queue.text ≤ held_len l.initial.position.opened + length l.initial.queue.text)

abbrev pub decreases-loop-queue : goal.decreases-loop-queue
decreases-loop-queue g l = length l.queue.text
