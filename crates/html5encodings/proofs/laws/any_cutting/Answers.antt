use Rattle.html5encodings.proofs.Runs.{given-append, state_after-append}
use Rattle.html5encodings.proofs.laws.any_cutting.Goals as goal

pub returns : goal.returns
returns c = record { given = given-append; leaves = state_after-append }
