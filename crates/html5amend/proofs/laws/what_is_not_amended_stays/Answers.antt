use Rattle.html5amend.proofs.Staying.{page-stays}
use Rattle.html5amend.proofs.laws.what_is_not_amended_stays.Goals as goal

pub returns : goal.returns
returns c = λ amends rules K text clean nothing. page-stays amends nothing rules K text clean
