use Rattle.std.proofs.Common.{◌≡◌, drop, map}
use Rattle.html5write.specs.Told.{attribute_told}
use Rattle.html5write.specs.Writing.{attribute_of, attribute_said}
use Rattle.html5write.proofs.utf8.are_texts.Given as goal

-- what holds of those from this one on holds of all
abbrev pub invariant-loop-attribute : goal.invariant-loop-attribute
invariant-loop-attribute l =
    map attribute_told (map attribute_of (drop l.attribute-index l.attributes)) ≡ map attribute_said (drop l.attribute-index l.attributes)
    → map attribute_told (map attribute_of l.attributes) ≡ map attribute_said l.attributes
