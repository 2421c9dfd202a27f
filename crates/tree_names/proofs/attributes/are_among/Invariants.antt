use Rattle.std.proofs.Common.{◌≡◌, map, drop}
use Rattle.tree_construction.specs.Formatting.{are_among}
use Rattle.markup5ever.specs.Names.{attribute_of}
use Rattle.tree_names.proofs.attributes.are_among.Given as goal

-- those before this one have one each
abbrev pub invariant-loop-attribute : goal.invariant-loop-attribute
invariant-loop-attribute g l =
    are_among (map attribute_of l.attributes) (map attribute_of l.others)
    ≡ are_among (map attribute_of (drop l.attribute-index l.attributes)) (map attribute_of l.others)
