use Rattle.std.proofs.Common.{◌≡◌, ◌++◌, ◌-◌, ◌≤◌, length, drop, string_bytes}
use Rattle.std.specs.Prelude.{encode_utf8_all}
use Rattle.html5encodings.specs.Decoding.{IsState, given, state_after}
use Rattle.html5encodings.proofs.state.append.Given as goal

abbrev pub invariant-loop-at : goal.invariant-loop-at
invariant-loop-at g l = record {
  within : l.at ≤ length l.bytes;
  text : string_bytes l.text ++ encode_utf8_all (given l.reached (drop l.at l.bytes)) ≡ string_bytes l.initial.text ++ encode_utf8_all (given l.fn.state l.bytes);
  leaves : state_after l.reached (drop l.at l.bytes) ≡ state_after l.fn.state l.bytes;
  valid : IsState l.reached;
}

abbrev pub decreases-loop-at : goal.decreases-loop-at
decreases-loop-at g l = length l.bytes - l.at
