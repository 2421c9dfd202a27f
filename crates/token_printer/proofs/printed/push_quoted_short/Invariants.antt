use Rattle.std.proofs.Common.{◌≡◌, ◌++◌, take}
use Rattle.token_printer.specs.Printed.{quoted_bytes}
use Rattle.token_printer.proofs.printed.push_quoted_short.Given as goal

abbrev pub invariant-loop-byte : goal.invariant-loop-byte
invariant-loop-byte g l = l.output.items ≡ l.fn.output.items ++ quoted_bytes (take l.byte-index l.text)
