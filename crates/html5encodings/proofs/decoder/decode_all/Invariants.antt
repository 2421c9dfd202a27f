use Rattle.std.proofs.Common.{◌≡◌, take, string_bytes}
use Rattle.std.specs.Prelude.{encode_utf8_all}
use Rattle.html5encodings.specs.Decoding.{bytes_of, given, start, state_after}
use Rattle.html5encodings.proofs.decoder.decode_all.Given as goal

abbrev pub invariant-loop-piece : goal.invariant-loop-piece
invariant-loop-piece g l = record {
  text : string_bytes l.text ≡ encode_utf8_all (given (start l.fn.encoding) (bytes_of (take l.piece-index l.pieces)));
  leaves : l.decoder ≡ state_after (start l.fn.encoding) (bytes_of (take l.piece-index l.pieces));
}
