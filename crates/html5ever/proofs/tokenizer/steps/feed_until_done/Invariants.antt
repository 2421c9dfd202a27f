use Rattle.std.proofs.Common.{◌≡◌, length}
use Rattle.html5ever.proofs.Draining.{HasDrained}
use Rattle.html5ever.proofs.tokenizer.steps.feed_until_done.Given as goal

abbrev pub invariant-loop : goal.invariant-loop
invariant-loop g l =
    HasDrained g.S.TokenSink.means l.initial.tokenizer l.tokenizer l.initial.queue l.queue
    × (g.S.TokenSink.faults l.tokenizer.sink ≡ g.S.TokenSink.faults l.initial.tokenizer.sink)

abbrev pub decreases-loop : goal.decreases-loop
decreases-loop g l = length l.queue.text
