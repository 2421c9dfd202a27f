use Rattle.std.proofs.Common.{arith}
use Rattle.html5write.proofs.PlainRuns.{none_more}
use Rattle.html5write.proofs.runs.has_stop.Goals as goal

pub loop-k-preserved : goal.loop-k-preserved
loop-k-preserved c =
    none_more c.args.bytes.now c.args.from c.loop-k.k c.loop-k.found c.is_stop-found.result c.loop-k.invariant c.is_stop-found.ensures

pub returns : goal.returns
returns c = λ none k low less. c.loop-k.invariant none k low (omega (arith, less, c.loop-k-test.false))
