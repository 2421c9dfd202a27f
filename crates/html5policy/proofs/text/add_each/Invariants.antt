use denote.Shadow.{shadow}
use denote.Text.{Utf8}
use Rattle.std.proofs.Common.{◌≡◌, length, map}
use Rattle.html5policy.specs.Adding.{naming}
use Rattle.html5policy.specs.Text.{rules_added, words}
use Rattle.html5policy.proofs.text.add_each.Given as goal

abbrev pub invariant-loop-name : goal.invariant-loop-name
invariant-loop-name g l =
    shadow (Utf8 l.left) × (rules_added l.fn.policy (map (naming l.kind) (words l.names)) ≡ rules_added l.policy (map (naming l.kind) (words l.left)))

abbrev pub decreases-loop-name : goal.decreases-loop-name
decreases-loop-name g l = length l.left
