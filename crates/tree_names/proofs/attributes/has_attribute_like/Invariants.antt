use Rattle.std.proofs.Common.{◌≡◌, map, drop}
use Rattle.tree_construction.specs.Formatting.{has_attribute_like}
use Rattle.markup5ever.specs.Names.{attribute_of}
use Rattle.tree_names.proofs.attributes.has_attribute_like.Given as goal

-- none before this one is like it
abbrev pub invariant-loop-other : goal.invariant-loop-other
invariant-loop-other g l =
    has_attribute_like (attribute_of l.attribute) (map attribute_of l.others)
    ≡ has_attribute_like (attribute_of l.attribute) (map attribute_of (drop l.other-index l.others))
