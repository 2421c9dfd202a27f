use Rattle.std.proofs.Common.{◌≡◌}
use Rattle.html5check.specs.Checking.{left_open}
use Rattle.html5check.proofs.checker.Checker.leave_open.Given as goal

-- this many were left open
abbrev pub invariant-loop : goal.invariant-loop
invariant-loop l = l.self ≡ left_open l.counter l.initial.self
