use Rattle.std.proofs.Common.{◌≡◌, drop}
use Rattle.html5serialize.specs.Refusals.{null_from}
use Rattle.html5serialize.proofs.names.null_in.Given as goal

-- no NUL stands before this place
abbrev pub invariant-loop-at : goal.invariant-loop-at
invariant-loop-at l = null_from 0 l.text ≡ null_from l.at (drop l.at l.byte-items)
