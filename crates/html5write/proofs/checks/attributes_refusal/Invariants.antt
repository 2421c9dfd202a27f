use Rattle.std.proofs.Common.{◌≡◌, drop, map}
use Rattle.html5write.specs.Refusals.{attributes_refusal}
use Rattle.html5write.specs.Writing.{attribute_of}
use Rattle.html5write.proofs.checks.attributes_refusal.Given as goal

-- nothing is wrong with those before this one
abbrev pub invariant-loop-index : goal.invariant-loop-index
invariant-loop-index l = attributes_refusal 0 (map attribute_of l.attributes) ≡ attributes_refusal l.index (map attribute_of (drop l.index l.attributes))
