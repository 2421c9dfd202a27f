use Rattle.html5tree.proofs.Built.{tree-of-nested, tree-of-read}
use Rattle.html5tree.proofs.laws.tree_of_fitting.Goals as goal

pub returns-clause-nesting : goal.returns-clause-nesting
returns-clause-nesting c = tree-of-nested

pub returns-clause-without_newlines : goal.returns-clause-without_newlines
returns-clause-without_newlines c = tree-of-read
