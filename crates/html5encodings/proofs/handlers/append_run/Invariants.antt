use Rattle.std.proofs.Common.{length, ◌-◌, string_bytes}
use Rattle.html5encodings.specs.Decoding.{Continues}
use Rattle.html5encodings.proofs.handlers.append_run.Given as goal

abbrev pub invariant-loop-at : goal.invariant-loop-at
invariant-loop-at g l = record {
  continues : Continues (g.H.Handler.state l.fn.held) l.bytes (string_bytes l.fn.text) (string_bytes l.text) (l.at, g.H.Handler.state l.reached);
}

abbrev pub decreases-loop-at : goal.decreases-loop-at
decreases-loop-at g l = length l.bytes - l.at
