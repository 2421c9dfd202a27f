use Rattle.html5splice.proofs.WholeTexts.{text-stays}
use Rattle.html5splice.proofs.laws.what_is_not_replaced_stays.Goals as goal

pub returns : goal.returns
returns g c = text-stays g.H.Splicer.splices
