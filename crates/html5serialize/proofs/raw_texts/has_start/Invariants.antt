use Rattle.std.proofs.Common.{◌≡◌, drop}
use Rattle.html5serialize.specs.RawTexts.{has_start}
use Rattle.html5serialize.proofs.raw_texts.has_start.Given as goal

-- none begins before this place
abbrev pub invariant-loop-at : goal.invariant-loop-at
invariant-loop-at l = has_start l.name l.text ≡ has_start l.name (drop l.at l.text)
