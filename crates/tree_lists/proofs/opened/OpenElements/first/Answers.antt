use Rattle.std.proofs.Common.{arith, ◌-◌}
use Rattle.tree_lists.proofs.OpenPlaces.{first-at}
use Rattle.tree_lists.specs.Opened.{open_of}
use Rattle.tree_lists.proofs.opened.OpenElements.first.Goals as goal

pub returns-else-count-eq0-clause-some : goal.returns-else-count-eq0-clause-some
returns-else-count-eq0-clause-some g c = first-at c.args.self.now (c.len-count.result - 1) (open_of g.H.NodeHandle.node c.at.result.now) _ c.at.ensures (omega arith)
