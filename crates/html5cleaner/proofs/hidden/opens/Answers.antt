use Rattle.std.proofs.Common.{sym}
use Rattle.std.proofs.Math.Bool.{and-false}
use Rattle.html5cleaner.proofs.hidden.opens.Goals as goal

pub returns-in-EndTag : goal.returns-in-EndTag
returns-in-EndTag g c = rw c.in-EndTag.is (sym (and-false _))
