use Rattle.std.proofs.Common.{◌≡◌, map, take}
use Rattle.markup5ever.specs.Names.{attribute_of}
use Rattle.tree_names.proofs.attributes.clone_attributes.Given as goal

abbrev pub invariant-loop-attribute : goal.invariant-loop-attribute
invariant-loop-attribute g l =
    map attribute_of l.clones.items ≡ map attribute_of (take l.attribute-index l.attribute-items)
