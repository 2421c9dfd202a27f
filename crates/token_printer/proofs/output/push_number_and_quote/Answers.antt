use Rattle.std.proofs.Common.{arith}
use Rattle.std.proofs.lemmas.Fmt.{length-decimal-le}
use Rattle.token_printer.proofs.output.push_number_and_quote.Goals as goal

pub write_digits-start-requires : goal.write_digits-start-requires
write_digits-start-requires g c = (length-decimal-le 20 c.args.line (omega arith) (omega arith) (omega arith), omega arith)
