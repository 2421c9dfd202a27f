-- The bytes so far are what was consumed, no read failed yet, and memory bounds how long it goes on.
use Rattle.std.proofs.Common.{◌≡◌, ◌-◌, ◌^◌, ◌<◌, length, vec_len}
use Rattle.std.specs.Io.KnownBytes.{Consumes}
use Rattle.devices.proofs.reading.read_to_end.Given as goal

abbrev pub invariant-loop-bytes : goal.invariant-loop-bytes
invariant-loop-bytes g l = record {
  consumed : Consumes (g.R.Source.remaining l.initial.source) (g.R.Source.remaining l.source) l.bytes.items;
  no_failure : g.R.Source.failures l.source ≡ g.R.Source.failures l.initial.source;
  room : 0 < length l.buffer;
}

abbrev pub decreases-loop-bytes : goal.decreases-loop-bytes
decreases-loop-bytes g l = 2 ^ 64 - vec_len l.bytes
