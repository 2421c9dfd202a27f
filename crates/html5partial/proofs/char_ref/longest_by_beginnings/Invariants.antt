use Rattle.std.proofs.Common.{◌≤◌, ◌-◌, length, take}
use Rattle.html5reading.specs.Reference.{longest_name}
use Rattle.html5partial.specs.CharRef.{IsNamed}
use Rattle.html5partial.proofs.char_ref.longest_by_beginnings.Given as goal

-- so far the longest name is the one with which the text up to there begins
abbrev pub invariant-loop-len : goal.invariant-loop-len
invariant-loop-len g l = record { within : l.len ≤ length l.text; found : IsNamed l.text l.found (longest_name l.references (take l.len l.text)) }

abbrev pub decreases-loop-len : goal.decreases-loop-len
decreases-loop-len g l = length l.text - l.len
