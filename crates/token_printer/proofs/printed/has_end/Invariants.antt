use Rattle.std.proofs.Common.{◌≡◌, ◌+◌, false}
use Rattle.token_printer.specs.Printed.{IsPlainWithin}
use Rattle.token_printer.proofs.printed.has_end.Given as goal

abbrev pub invariant-loop-k : goal.invariant-loop-k
invariant-loop-k l = l.found ≡ false → IsPlainWithin l.bytes l.from (l.from + l.k)
