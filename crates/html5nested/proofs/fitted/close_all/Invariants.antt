use Rattle.std.proofs.Common.{◌≡◌, length}
use Rattle.html5tree.specs.Normal.{end_tags}
use Rattle.html5nested.proofs.Added.{IsLeft}
use Rattle.html5nested.proofs.fitted.close_all.Given as goal

abbrev pub invariant-loop-name : goal.invariant-loop-name
invariant-loop-name g l =
    IsLeft l.initial.page l.page (end_tags l.initial.nesting.opened) (end_tags l.nesting.opened) × (l.nesting.limit ≡ l.initial.nesting.limit)

abbrev pub decreases-loop-name : goal.decreases-loop-name
decreases-loop-name g l = length l.nesting.opened
