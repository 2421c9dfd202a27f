use Rattle.std.proofs.Common.{◌≡◌, ◌++◌, map, length}
use Rattle.std.specs.String.{string_bytes}
use Rattle.std.specs.Vec.Iter.{into_iter_items, into_iter_len}
use Rattle.html5ever.specs.Pieces.{text_of}
use Rattle.html5ever.proofs.tokenizer.whole.hand_in_pieces.Given as goal

abbrev pub invariant-loop-piece : goal.invariant-loop-piece
invariant-loop-piece g l =
    (l.queue.text ++ text_of (map string_bytes (into_iter_items l.piece-iterator))
    ≡ l.initial.queue.text ++ text_of (map string_bytes (into_iter_items l.initial.piece-iterator)))
    × (into_iter_len l.piece-iterator ≡ length (into_iter_items l.piece-iterator))
