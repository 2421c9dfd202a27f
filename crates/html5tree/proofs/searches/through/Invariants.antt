use Rattle.html5tree.proofs.OpenNames.{IsPassed}
use Rattle.html5tree.specs.Searches.{is_bound, is_wanted}
use Rattle.html5tree.proofs.searches.through.Given as goal

abbrev pub invariant-loop-at : goal.invariant-loop-at
invariant-loop-at l = IsPassed (is_wanted l.wanted) (is_bound l.bound) l.opened l.at

abbrev pub decreases-loop-at : goal.decreases-loop-at
decreases-loop-at l = l.at
