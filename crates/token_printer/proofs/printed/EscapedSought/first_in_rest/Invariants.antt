use Rattle.token_printer.specs.Printed.{IsPlainWithin}
use Rattle.token_printer.proofs.printed.EscapedSought.first_in_rest.Given as goal

abbrev pub invariant-loop-at : goal.invariant-loop-at
invariant-loop-at l = IsPlainWithin l.bytes l.from l.at
