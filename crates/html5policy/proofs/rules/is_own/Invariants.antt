use Rattle.std.proofs.Common.{◌≡◌, drop, map}
use Rattle.html5policy.specs.Policy.{is_own}
use Rattle.html5policy.specs.Code.{own_of}
use Rattle.html5policy.proofs.rules.is_own.Given as goal

-- none before this one is it
abbrev pub invariant-loop-own : goal.invariant-loop-own
invariant-loop-own g l = is_own (map own_of l.attributes) l.element l.attribute ≡ is_own (map own_of (drop l.own-index l.attributes)) l.element l.attribute
