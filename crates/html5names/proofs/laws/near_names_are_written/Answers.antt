use Rattle.html5names.proofs.Written.{near}
use Rattle.html5names.proofs.laws.near_names_are_written.Goals as goal

pub returns : goal.returns
returns c = near
