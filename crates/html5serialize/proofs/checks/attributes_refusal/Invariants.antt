use Rattle.std.proofs.Common.{◌≡◌, drop, map}
use Rattle.html5serialize.specs.Refusals.{attributes_refusal}
use Rattle.markup5ever.specs.Names.{attribute_of}
use Rattle.html5serialize.proofs.checks.attributes_refusal.Given as goal

-- nothing is wrong with those before this one
abbrev pub invariant-loop-index : goal.invariant-loop-index
invariant-loop-index g l =
    attributes_refusal 0 (map attribute_of l.attributes) ≡ attributes_refusal l.index (map attribute_of (drop l.index l.attributes))
