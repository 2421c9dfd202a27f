use Rattle.std.proofs.Common.{drop}
use Rattle.html5tree.specs.Normal.{start_tags}
use Rattle.html5tree.specs.Planned.{parents_said}
use Rattle.html5nested.proofs.Added.{IsLeft}
use Rattle.html5nested.proofs.pieces.write_parents.Given as goal

abbrev pub invariant-loop-at : goal.invariant-loop-at
invariant-loop-at g l = IsLeft l.initial.page l.page (start_tags (parents_said l.parents)) (start_tags (drop l.at (parents_said l.parents)))
