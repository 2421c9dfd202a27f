use Rattle.html5cleaner.proofs.Deeper.{page-keeps_all}
use Rattle.html5cleaner.proofs.TreeTwins.{page-keeps_some}
use Rattle.html5cleaner.proofs.laws.kept_in_tree.Goals as goal

pub returns-clause-all : goal.returns-clause-all
returns-clause-all c = page-keeps_all

pub returns-clause-some : goal.returns-clause-some
returns-clause-some c = page-keeps_some
