-- What was read is the front, which waits for more, and no read failed.
use Rattle.std.proofs.Common.{◌≡◌, ◌-◌, ◌<◌, length}
use Rattle.std.specs.Io.KnownBytes.{Consumes}
use Rattle.html5sniffing.proofs.opening.read_front.Given as goal

abbrev pub invariant-loop-count : goal.invariant-loop-count
invariant-loop-count g l = record {
  given : Consumes (g.R.Source.remaining l.fn.source) (g.R.Source.remaining l.source) l.front.bytes;
  waits : length l.front.bytes < 65536;
  no_failure : g.R.Source.failures l.source ≡ g.R.Source.failures l.fn.source;
}

abbrev pub decreases-loop-count : goal.decreases-loop-count
decreases-loop-count g l = 65536 - length l.front.bytes
