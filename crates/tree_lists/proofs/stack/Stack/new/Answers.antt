use Rattle.std.proofs.Common.{ap}
use Rattle.std.specs.Prelude.{reverse}
use Rattle.tree_lists.proofs.stack.Stack.new.Goals as goal

pub returns : goal.returns
returns g c = ap reverse c.new.ensures.items
