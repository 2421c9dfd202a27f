use Rattle.std.proofs.Common.{◌≡◌, ◌++◌}
use Rattle.tree_lines.specs.Lines.{spaces}
use Rattle.tree_lines.proofs.line.begin_line.Given as goal

abbrev pub invariant-loop : goal.invariant-loop
invariant-loop g l = l.output.items ≡ l.initial.output.items ++ spaces l.counter
