-- What was read so far is fed except for what the decoder holds, nothing waits, and nothing failed yet.
use Rattle.std.proofs.Common.{◌≡◌, ◌<◌, [], length}
use Rattle.html5stream.specs.Streams.{GivesAtLeast}
use Rattle.html5stream.proofs.Streaming.{HasRead}
use Rattle.html5stream.proofs.source.read_text.Given as goal

abbrev pub invariant-loop-reads : goal.invariant-loop-reads
invariant-loop-reads g l = record {
  read : HasRead g.S.TokenSink.means
      (g.R.Source.remaining l.fn.source) (g.R.Source.remaining l.source) l.fn.tokenizer l.tokenizer l.decoder;
  much : GivesAtLeast l._reads (g.R.Source.remaining l.fn.source) (g.R.Source.remaining l.source);
  waiting : l.queue.text ≡ [];
  no_failure : g.R.Source.failures l.source ≡ g.R.Source.failures l.fn.source;
  no_fault : g.S.TokenSink.faults l.tokenizer.sink ≡ g.S.TokenSink.faults l.fn.tokenizer.sink;
  room : 0 < length l.buffer;
}
