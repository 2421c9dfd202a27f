-- The text still to come is that of the start, there is room for some of it, and no read failed.
use Rattle.std.proofs.Common.{◌≡◌, ◌+◌, ◌<◌, length}
use Rattle.std.specs.Io.KnownBytes.{Keeps}
use Rattle.decoded_source.specs.Texts.{text_from}
use Rattle.decoded_source.proofs.source.DecodedSourceSource.read.Given as goal

abbrev pub invariant-loop-reads : goal.invariant-loop-reads
invariant-loop-reads g l = record {
  keeps : Keeps (text_from l.fn.self (g.S.Source.remaining l.fn.self.inner)) (text_from l.self (g.S.Source.remaining l.self.inner));
  no_failure : g.S.Source.failures l.self.inner + l.self.own_failures ≡ g.S.Source.failures l.fn.self.inner + l.fn.self.own_failures;
  room : 0 < length l.buf;
}
