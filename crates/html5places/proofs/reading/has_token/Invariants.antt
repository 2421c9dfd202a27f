use Rattle.std.proofs.Common.{◌≡◌, drop, map}
use Rattle.html5places.specs.Marks.{placed_token}
use Rattle.html5places.specs.Placed.{has_token}
use Rattle.html5places.proofs.reading.has_token.Given as goal

abbrev pub invariant-loop-placed : goal.invariant-loop-placed
invariant-loop-placed g l = has_token (map placed_token l.tokens) ≡ has_token (map placed_token (drop l.placed-index l.tokens))
