-- What was read so far is written except for what the decoder holds, and nothing failed yet.
use Rattle.std.proofs.Common.{◌≡◌, ◌<◌, length}
use Rattle.html5splice.proofs.Sources.{HasSpliced}
use Rattle.html5splice.specs.Splicing.{splicing_of}
use Rattle.html5splice.proofs.page.splice_source.Given as goal

abbrev pub invariant-loop-reads : goal.invariant-loop-reads
invariant-loop-reads g l = record {
  spliced : HasSpliced g.H.Splicer.splices (g.R.Source.remaining l.fn.source) (g.R.Source.remaining l.source) l.decoder l.fn.reader l.reader
      (splicing_of g.H.Splicer.state g.O.Output.bytes l.fn.splicing) (splicing_of g.H.Splicer.state g.O.Output.bytes l.splicing);
  no_failure : g.R.Source.failures l.source ≡ g.R.Source.failures l.fn.source;
  room : 0 < length l.buffer;
}
