use Rattle.std.proofs.Common.{◌≡◌, map, drop}
use Rattle.html5reading.specs.Tag.{has_attribute}
use Rattle.markup5ever.specs.Names.{attribute_of}
use Rattle.html5partial.proofs.indexed_tag.is_among.Given as goal

abbrev pub invariant-loop-attribute : goal.invariant-loop-attribute
invariant-loop-attribute g l =
    has_attribute (map attribute_of l.attributes) l.name ≡ has_attribute (map attribute_of (drop l.attribute-index l.attributes)) l.name
