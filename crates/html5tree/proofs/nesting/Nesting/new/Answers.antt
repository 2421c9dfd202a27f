use Rattle.std.proofs.Common.{ap}
use Rattle.html5tree.proofs.Nests.{ready-none}
use Rattle.html5tree.specs.Searches.{names_open}
use Rattle.html5tree.proofs.nesting.Nesting.new.Goals as goal

pub invariant_of-result : goal.invariant_of-result
invariant_of-result g c = ready-none c.args.limit (names_open c.new.result.items) (ap names_open c.new.ensures.items)
