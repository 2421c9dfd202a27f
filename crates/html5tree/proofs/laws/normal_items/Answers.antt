use Rattle.html5tree.proofs.Bounds.{normal-bound}
use Rattle.html5tree.proofs.Cuts.{normal-cut}
use Rattle.html5tree.proofs.Normalising.{normal-fits, normal-tree, normal-twice, normal-unchanged, normal-within}
use Rattle.html5tree.proofs.laws.normal_items.Goals as goal

pub returns-clause-fits : goal.returns-clause-fits
returns-clause-fits c = normal-fits

pub returns-clause-within : goal.returns-clause-within
returns-clause-within c = normal-within

pub returns-clause-tree : goal.returns-clause-tree
returns-clause-tree c = normal-tree

pub returns-clause-unchanged : goal.returns-clause-unchanged
returns-clause-unchanged c = normal-unchanged

pub returns-clause-twice : goal.returns-clause-twice
returns-clause-twice c = normal-twice

pub returns-clause-bound : goal.returns-clause-bound
returns-clause-bound c = normal-bound

pub returns-clause-cut : goal.returns-clause-cut
returns-clause-cut c = normal-cut
