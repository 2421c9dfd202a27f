use Rattle.std.proofs.Common.{arith}
use Rattle.token_printer.proofs.Quotes.{none_more}
use Rattle.token_printer.proofs.printed.has_end.Goals as goal

pub loop-k-preserved : goal.loop-k-preserved
loop-k-preserved c =
    none_more c.args.bytes.now c.args.from c.loop-k.k c.loop-k.found c.needs_escape-found.result c.loop-k.invariant c.needs_escape-found.ensures

pub returns : goal.returns
returns c = λ none k low less. c.loop-k.invariant none k low (omega (arith, less, c.loop-k-test.false))
