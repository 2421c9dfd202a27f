use Rattle.std.proofs.Common.{◌≡◌, drop, take}
use Rattle.html5check.specs.Opened.{closed_by, depth, opened_by, reached}
use Rattle.html5check.proofs.Opening.{counted}
use Rattle.html5check.proofs.open_elements.closed_by.Given as goal

-- it is not among those that were passed
abbrev pub invariant-loop-i : goal.invariant-loop-i
invariant-loop-i l = closed_by (opened_by l.elements) l.name ≡ counted l.i 0 (reached (drop l.i (take depth (opened_by l.elements))) l.name)
