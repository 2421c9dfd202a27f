use Rattle.std.proofs.Common.{◌≡◌, map, drop}
use Rattle.tree_construction.specs.Tokens.{value_of}
use Rattle.markup5ever.specs.Names.{attribute_of}
use Rattle.tree_names.proofs.attributes.value_of.Given as goal

abbrev pub invariant-loop-attribute : goal.invariant-loop-attribute
invariant-loop-attribute g l =
    value_of l.name (map attribute_of l.attributes) ≡ value_of l.name (map attribute_of (drop l.attribute-index l.attributes))
