use Rattle.std.proofs.Common.{◌≡◌, ◌-◌, length}
use Rattle.html5cli.proofs.FeedingText.{FedTo}
use Rattle.html5cli.proofs.feeding.feed_text.Given as goal

abbrev pub invariant-loop-start : goal.invariant-loop-start
invariant-loop-start g l = record {
  fed : FedTo (g.W.Target.contents l.initial.writer) (g.W.Target.contents l.writer) l.initial.tokenizer l.tokenizer l.text l.start l.queue;
  no_failure : g.W.Target.failures l.writer ≡ g.W.Target.failures l.initial.writer;
}

abbrev pub decreases-loop-start : goal.decreases-loop-start
decreases-loop-start g l = length l.text - l.start
