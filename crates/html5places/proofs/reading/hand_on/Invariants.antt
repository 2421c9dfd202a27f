use Rattle.std.proofs.Common.{◌≡◌, length, map}
use Rattle.std.specs.Vec.Iter.{into_iter_items, into_iter_len}
use Rattle.html5places.specs.Marks.{placed_token}
use Rattle.html5places.proofs.HandingOn.{HandedSome}
use Rattle.html5places.proofs.reading.hand_on.Given as goal

abbrev pub invariant-loop-placed : goal.invariant-loop-placed
invariant-loop-placed g l =
    HandedSome g.H.PlacedHandler.step (g.H.PlacedHandler.state l.initial.handler) (g.H.PlacedHandler.state l.handler)
    (map placed_token (into_iter_items l.initial.placed-iterator)) (map placed_token (into_iter_items l.placed-iterator))
    × (into_iter_len l.placed-iterator ≡ length (into_iter_items l.placed-iterator))
