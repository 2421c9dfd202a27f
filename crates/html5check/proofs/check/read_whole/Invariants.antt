-- The text so far, and what begins a character after it, are what was consumed. Memory bounds how long it goes on.
use Rattle.std.proofs.Common.{◌≡◌, ◌+◌, ◌-◌, ◌^◌, ◌<◌, ◌++◌, length, string_bytes}
use Rattle.std.specs.Io.KnownBytes.{Consumes}
use Rattle.html5check.proofs.check.read_whole.Given as goal

abbrev pub invariant-loop-text : goal.invariant-loop-text
invariant-loop-text g l = record {
  consumed : Consumes (g.R.Source.remaining l.initial.source) (g.R.Source.remaining l.source) (string_bytes l.text ++ l.decoder.held);
  no_failure : g.R.Source.failures l.source ≡ g.R.Source.failures l.initial.source;
  room : 0 < length l.buffer;
}

abbrev pub decreases-loop-text : goal.decreases-loop-text
decreases-loop-text g l = (2 ^ 64 + 4) - (length (string_bytes l.text) + length l.decoder.held)
