use Rattle.std.proofs.Common.{◌≡◌, ◌+◌, ◌≤◌, chars, length}
use Rattle.html5cleaner.specs.Open.{names_of, reach}
use Rattle.html5cleaner.proofs.names.reach.Given as goal

-- it is not among those that were passed
abbrev pub invariant-loop-inner : goal.invariant-loop-inner
invariant-loop-inner g l = (reach (names_of l.names) (chars l.name) + length l.left ≡ length l.names + reach (names_of l.left) (chars l.name)) × (length l.left ≤ length l.names)

abbrev pub decreases-loop-inner : goal.decreases-loop-inner
decreases-loop-inner g l = length l.left
