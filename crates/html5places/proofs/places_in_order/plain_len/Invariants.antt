use Rattle.std.proofs.Common.{◌≡◌, take, true}
use Rattle.std.specs.List.{list_all}
use Rattle.html5places.specs.Cursor.{is_plain}
use Rattle.html5places.proofs.places_in_order.plain_len.Given as goal

-- all that were passed are plain
abbrev pub invariant-loop-i : goal.invariant-loop-i
invariant-loop-i l = list_all is_plain (take l.i l.bytes) ≡ true
