use Rattle.std.proofs.Common.{arith}
use Rattle.std.proofs.lemmas.Result.{err_from_is_err_and}
use Rattle.markup5ever.proofs.Beginnings.{BeginsWith-less}
use Rattle.token_printer.proofs.Quotes.{quoted_bytes-none, quoted_bytes-next}
use Rattle.token_printer.proofs.printed.push_quoted_short.Goals as goal

pub loop-byte-init : goal.loop-byte-init
loop-byte-init g c = quoted_bytes-none c.args.output.now.items

pub returns-in_err-push_quoted_byte-clause-err : goal.returns-in_err-push_quoted_byte-clause-err
returns-in_err-push_quoted_byte-clause-err g c =
    let failed = err_from_is_err_and c.from_residual.result c.from_residual.ensures.1 in
    rw failed.1 (BeginsWith-less _ _ _ _ c.loop-byte.invariant c.in_err-push_quoted_byte.ensures.err)

pub loop-byte-preserved : goal.loop-byte-preserved
loop-byte-preserved g c =
    quoted_bytes-next _ _ _ c.args.text.now c.loop-byte.byte-index c.loop-byte.invariant (omega arith) c.in_ok-push_quoted_byte.ensures.ok
