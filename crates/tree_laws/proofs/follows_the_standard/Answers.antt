use Rattle.tree_laws.proofs.Following.{follows}
use Rattle.tree_laws.proofs.follows_the_standard.Goals as goal

pub returns : goal.returns
returns c = follows
