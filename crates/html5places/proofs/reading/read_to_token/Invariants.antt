use Rattle.std.proofs.Common.{◌≡◌, [], false}
use Rattle.std.specs.Str.{IsUtf8}
use Rattle.std.specs.Str.Iter.{chars_rest}
use Rattle.html5places.proofs.TextLoop.{HasReadQuietly}
use Rattle.html5places.proofs.reading.read_to_token.Given as goal

abbrev pub invariant-loop-c : goal.invariant-loop-c
invariant-loop-c g l =
    (goal.iterator-loop-c g).can_next l.c-iterator × (goal.iterator-loop-c g).is_finite l.c-iterator
    × IsUtf8 (chars_rest l.c-iterator)
    × HasReadQuietly g.H.PlacedHandler.step l.initial.tokenizer l.tokenizer (g.H.PlacedHandler.state l.initial.handler) (g.H.PlacedHandler.state l.handler)
    l.text (chars_rest l.c-iterator) l.count
    × (l.tokenizer.ended ≡ false)
    × (l.tokenizer.failed ≡ false)
    × (l.queue.text ≡ [])
