use Rattle.std.proofs.Common.{◌≡◌, drop}
use Rattle.html5cleaner.proofs.open_elements.OpenElements.close.Given as goal

-- this many were closed
abbrev pub invariant-loop : goal.invariant-loop
invariant-loop g l = l.self ≡ drop l.counter l.initial.self
