use Rattle.html5cleaner.proofs.GoodItems.{are_clean-step}
use Rattle.html5cleaner.proofs.laws.kept_pieces_are_clean.Goals as goal

pub returns-clause-stay : goal.returns-clause-stay
returns-clause-stay c = are_clean-step
