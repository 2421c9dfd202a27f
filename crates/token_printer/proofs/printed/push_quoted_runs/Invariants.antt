use Rattle.std.proofs.Common.{◌≡◌, ◌-◌, ◌≤◌, ◌++◌, length, take}
use Rattle.token_printer.specs.Printed.{quoted_bytes}
use Rattle.token_printer.proofs.printed.push_quoted_runs.Given as goal

abbrev pub invariant-loop-output : goal.invariant-loop-output
invariant-loop-output g l = (l.start ≤ length l.text) × (l.output.items ≡ l.fn.output.items ++ quoted_bytes (take l.start l.text))

abbrev pub decreases-loop-output : goal.decreases-loop-output
decreases-loop-output g l = length l.text - l.start
