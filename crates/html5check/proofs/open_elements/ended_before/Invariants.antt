use Rattle.std.proofs.Common.{◌≡◌, drop}
use Rattle.html5check.specs.Opened.{ended_before, opened_by}
use Rattle.html5check.proofs.Opening.{counted}
use Rattle.html5check.proofs.open_elements.ended_before.Given as goal

-- of those that were passed this many are ended, and more if one of those that are left is
abbrev pub invariant-loop-i : goal.invariant-loop-i
invariant-loop-i l = ended_before (opened_by l.elements) l.name ≡ counted l.i l.count (ended_before (drop l.i (opened_by l.elements)) l.name)
