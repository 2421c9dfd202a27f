use Rattle.html5tree.proofs.Keeping.{normal-keeps, normal-keeps_all}
use Rattle.html5tree.proofs.Room.{normal-not_reached}
use Rattle.html5tree.proofs.laws.kept_items.Goals as goal

pub returns-clause-some : goal.returns-clause-some
returns-clause-some c = normal-keeps

pub returns-clause-all : goal.returns-clause-all
returns-clause-all c = normal-keeps_all

pub returns-clause-not_reached : goal.returns-clause-not_reached
returns-clause-not_reached c = normal-not_reached
