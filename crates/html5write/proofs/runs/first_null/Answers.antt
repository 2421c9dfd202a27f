use Rattle.html5write.proofs.PlainRuns.{no_null-first, no_null-more}
use Rattle.html5write.proofs.runs.first_null.Goals as goal

pub loop-at-init : goal.loop-at-init
loop-at-init c = (c.first_from-at.ensures.high, no_null-first c.args.bytes.now c.first_from-at.result c.first_from-at.ensures)

pub loop-at-preserved : goal.loop-at-preserved
loop-at-preserved c = (
  c.first_from-at-in-loop-at.ensures.high,
  no_null-more c.args.bytes.now c.loop-at.at c.first_from-at-in-loop-at.result c.loop-at.invariant.1 c.if-bytes-at-ne0.true c.first_from-at-in-loop-at.ensures,
)
