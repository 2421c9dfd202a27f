use Rattle.html5names.proofs.Written.{swaps}
use Rattle.html5names.proofs.laws.swaps_are_written.Goals as goal

pub returns : goal.returns
returns c = swaps
