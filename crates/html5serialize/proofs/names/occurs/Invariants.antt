use Rattle.std.proofs.Common.{◌≡◌, drop}
use Rattle.html5grammar.specs.Comment.{occurs}
use Rattle.html5serialize.proofs.names.occurs.Given as goal

-- the word stands nowhere before this place
abbrev pub invariant-loop-at : goal.invariant-loop-at
invariant-loop-at l = occurs l.word l.text ≡ occurs l.word (drop l.at l.text)
