use Rattle.html5cleaner.proofs.FittingPieces.{fits-nothing}
use Rattle.html5cleaner.proofs.fitting.fit_of_tag.Goals as goal

pub returns-in_default : goal.returns-in_default
returns-in_default g c = rw c.in_default.is (fits-nothing c.args.nesting.now)
