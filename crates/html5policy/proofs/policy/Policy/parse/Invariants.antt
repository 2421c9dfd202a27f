use denote.Shadow.{shadow}
use denote.Text.{Utf8}
use Rattle.std.proofs.Common.{◌≡◌, ◌≤◌, ◌+◌, length}
use Rattle.html5policy.specs.Text.{lines, lines_added, policy_said}
use Rattle.html5policy.proofs.policy.Policy.parse.Given as goal

abbrev pub invariant-loop-line : goal.invariant-loop-line
invariant-loop-line g l =
    shadow (Utf8 l.left) × (policy_said l.text ≡ lines_added l.policy l.number (lines l.left)) × (l.number + length l.left ≤ length l.text + 1)

abbrev pub decreases-loop-line : goal.decreases-loop-line
decreases-loop-line g l = length l.left
