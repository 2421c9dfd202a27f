use Rattle.std.proofs.Common.{◌≡◌, chars, length}
use Rattle.html5places.specs.Cursor.{cursor_by, onward}
use Rattle.html5places.proofs.places_in_order.Cursor.onward.Given as goal

-- from here on it comes to the same cursor
abbrev pub invariant-loop-c : goal.invariant-loop-c
invariant-loop-c l = onward l.to (cursor_by l.cursor) ≡ onward l.to (cursor_by l.self)

abbrev pub decreases-loop-c : goal.decreases-loop-c
decreases-loop-c l = length (chars l.cursor.rest.now)
