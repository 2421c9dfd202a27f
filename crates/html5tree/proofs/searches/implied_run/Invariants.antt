use Rattle.html5tree.proofs.OpenNames.{IsRun}
use Rattle.html5tree.specs.Searches.{implied_before}
use Rattle.html5tree.proofs.searches.implied_run.Given as goal

abbrev pub invariant-loop-at : goal.invariant-loop-at
invariant-loop-at l = IsRun (implied_before l.before_text) l.opened l.at

abbrev pub decreases-loop-at : goal.decreases-loop-at
decreases-loop-at l = l.at
