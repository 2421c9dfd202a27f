use Rattle.std.proofs.Common.{◌≡◌, false, map, length}
use Rattle.std.specs.String.{string_bytes}
use Rattle.std.specs.Vec.Iter.{into_iter_items, into_iter_len}
use Rattle.html5ever.proofs.FeedingPieces.{HasFed}
use Rattle.html5ever.proofs.tokenizer.pieces.feed_each.Given as goal

abbrev pub invariant-loop-piece : goal.invariant-loop-piece
invariant-loop-piece g l =
    HasFed g.S.TokenSink.means l.initial.tokenizer l.tokenizer l.initial.queue l.queue
    (map string_bytes (into_iter_items l.initial.piece-iterator)) (map string_bytes (into_iter_items l.piece-iterator))
    × (l.tokenizer.ended ≡ false)
    × (l.tokenizer.failed ≡ false)
    × (g.S.TokenSink.faults l.tokenizer.sink ≡ g.S.TokenSink.faults l.initial.tokenizer.sink)
    × (into_iter_len l.piece-iterator ≡ length (into_iter_items l.piece-iterator))
