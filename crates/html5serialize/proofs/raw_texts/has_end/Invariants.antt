use Rattle.std.proofs.Common.{◌≡◌, drop}
use Rattle.html5serialize.specs.RawTexts.{has_end}
use Rattle.html5serialize.proofs.raw_texts.has_end.Given as goal

-- no end tag begins before this place
abbrev pub invariant-loop-at : goal.invariant-loop-at
invariant-loop-at l = has_end l.name l.text ≡ has_end l.name (drop l.at l.text)
