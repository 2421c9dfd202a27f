use Rattle.html5cleaner.proofs.NestedTrees.{nested-page}
use Rattle.html5cleaner.proofs.OtherPieces.{same-others}
use Rattle.html5cleaner.proofs.laws.balanced_page.Goals as goal

pub returns-clause-nested : goal.returns-clause-nested
returns-clause-nested c = nested-page

pub returns-clause-others : goal.returns-clause-others
returns-clause-others c = same-others
