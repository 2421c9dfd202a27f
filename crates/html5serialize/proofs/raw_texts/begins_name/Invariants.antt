use Rattle.std.proofs.Common.{◌≡◌, ◌≤◌, length, drop}
use Rattle.html5serialize.specs.RawTexts.{begins_name}
use Rattle.html5serialize.proofs.raw_texts.begins_name.Given as goal

-- the text begins with the name up to this place
abbrev pub invariant-loop-at : goal.invariant-loop-at
invariant-loop-at l = (begins_name l.name l.text ≡ begins_name (drop l.at l.name) (drop l.at l.text)) × (l.at ≤ length l.text)
