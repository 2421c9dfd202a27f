use Rattle.std.proofs.Common.{arith, refl}
use Rattle.html5fast_path.proofs.Beginnings.{front-nothing}
use Rattle.html5fast_path.proofs.names.read_name.Goals as goal

pub returns-in_default : goal.returns-in_default
returns-in_default g c = record { reads = front-nothing _ _ _ c.utf8.text refl; last = refl; held = omega arith }
