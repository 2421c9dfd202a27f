use Rattle.std.proofs.Common.{arith}
use Rattle.tree_construction.specs.Document.{moved}
use Rattle.tree_names.proofs.Loops.{adjusts-next}
use Rattle.tree_arena.specs.Rows.{plain_row}
use Rattle.tree_arena.proofs.NodeRows.{moved-all, moved-rows}
use Rattle.tree_arena.proofs.moves.move_nodes.Goals as goal

pub loop-at-preserved : goal.loop-at-preserved
loop-at-preserved g c =
    adjusts-next plain_row (moved c.args.source.0 c.args.target.0) c.loop-at.nodes c.args.nodes.now c.loop-at.at c.move_node.new.node c.index-nodes-at.result
    c.loop-at.invariant (omega arith) c.move_node.ensures

pub returns : goal.returns
returns g c =
    moved-rows c.args.source.0 c.args.target.0 c.args.nodes.now c.loop-at.nodes
    (moved-all (moved c.args.source.0 c.args.target.0) c.args.nodes.now c.loop-at.nodes c.loop-at.at c.loop-at.invariant (omega arith))
