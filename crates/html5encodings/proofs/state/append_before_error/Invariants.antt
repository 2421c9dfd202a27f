use Rattle.std.proofs.Common.{◌≡◌, ◌+◌, ◌++◌, ◌≤◌, drop, string_bytes}
use Rattle.std.specs.Prelude.{IfSome, encode_utf8_all}
use Rattle.html5encodings.specs.Decoding.{IsState, given_before_error, len_before_error, state_before_error}
use Rattle.html5encodings.proofs.state.append_before_error.Given as goal

abbrev pub invariant-loop-byte : goal.invariant-loop-byte
invariant-loop-byte g l = record {
  text : string_bytes l.text ++ encode_utf8_all (given_before_error l.before.left (drop l.byte-index l.bytes))
      ≡ string_bytes l.initial.text ++ encode_utf8_all (given_before_error l.fn.state l.bytes);
  leaves : state_before_error l.before.left (drop l.byte-index l.bytes) ≡ state_before_error l.fn.state l.bytes;
  len : l.before.len + len_before_error l.before.left (drop l.byte-index l.bytes) ≡ len_before_error l.fn.state l.bytes;
  at : l.before.len ≡ l.byte-index;
  whole : IfSome l.before.whole (λ whole. whole ≤ l.before.len);
  valid : IsState l.before.left;
}
