use Rattle.std.proofs.Common.{ap, sym}
use Rattle.tree_arena.proofs.NodeRows.{read-absent, read-row}
use Rattle.tree_arena.proofs.rows.parent_of.Goals as goal

pub returns-in-Some : goal.returns-in-Some
returns-in-Some g c = sym (ap (λ r. r.parent) (read-row c.args.nodes.now c.in-Some.at c.args.id.0 c.index-nodes-at.result c.in-Some.ensures))

pub returns-in-None : goal.returns-in-None
returns-in-None g c = sym (ap (λ r. r.parent) (read-absent c.args.nodes.now c.args.id.0 c.in-None.ensures))
