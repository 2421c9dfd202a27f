use Rattle.html5places.proofs.Standing.{all-between}
use Rattle.html5places.proofs.Written.{all-stand_written}
use Rattle.html5places.proofs.laws.tokens_are_items.Goals as goal

pub returns-clause-between : goal.returns-clause-between
returns-clause-between c = λ rules K text clean. all-between rules K text clean

pub returns-clause-written : goal.returns-clause-written
returns-clause-written c = λ rules K text table clean. all-stand_written rules table K text clean
