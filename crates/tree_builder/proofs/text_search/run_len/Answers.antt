use Rattle.std.proofs.Common.{arith}
use Rattle.tree_builder.proofs.Boundaries.{all_more}
use Rattle.tree_builder.proofs.text_search.run_len.Goals as goal

pub loop-at-preserved : goal.loop-at-preserved
loop-at-preserved c =
    all_more c.args.class c.args.bytes.now c.loop-at.at (omega arith) c.loop-at.invariant (c.holds.ensures.yes c.if-not-holds.false)
