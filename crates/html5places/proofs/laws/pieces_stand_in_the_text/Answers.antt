use Rattle.std.proofs.Common.{◌≤◌, ◌++◌}
use Rattle.std.proofs.lemmas.List.Elements.{All-weaker}
use Rattle.html5places.proofs.MarkupPlaces.{begins-first, begins-in_state}
use Rattle.html5places.proofs.Standing.{ends-within, piece-between}
use Rattle.html5places.proofs.Written.{piece-written}
use Rattle.html5places.specs.Placed.{placed_by}
use Rattle.html5places.specs.Written.{StandsBetween, place_after}
use Rattle.html5places.proofs.laws.pieces_stand_in_the_text.Goals as goal

pub returns-clause-between : goal.returns-clause-between
returns-clause-between c = λ rules B front before piece begins. piece-between rules B.start front B.marks begins before piece

pub returns-clause-within : goal.returns-clause-within
returns-clause-within c = λ rules B front before piece begins.
    All-weaker (StandsBetween (front ++ (before ++ piece))) (λ p. p.places.end ≤ place_after (front ++ (before ++ piece)))
    (ends-within (front ++ (before ++ piece))) (placed_by rules B before piece) (piece-between rules B.start front B.marks begins before piece)

pub returns-clause-first_byte : goal.returns-clause-first_byte
returns-clause-first_byte c = begins-first

pub returns-clause-state_set : goal.returns-clause-state_set
returns-clause-state_set c = λ B reading front before state begins stands. begins-in_state front B reading before state begins stands

pub returns-clause-written : goal.returns-clause-written
returns-clause-written c = λ rules K before piece table clean. piece-written rules table K before piece clean
