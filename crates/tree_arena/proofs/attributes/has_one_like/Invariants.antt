use Rattle.std.proofs.Common.{◌≡◌, map, drop}
use Rattle.markup5ever.specs.Names.{attribute_of}
use Rattle.tree_construction.specs.Document.{has_one_like}
use Rattle.tree_arena.proofs.attributes.has_one_like.Given as goal

-- those before this one have other names
abbrev pub invariant-loop-other : goal.invariant-loop-other
invariant-loop-other g l =
    has_one_like (attribute_of l.attribute) (map attribute_of l.others)
    ≡ has_one_like (attribute_of l.attribute) (map attribute_of (drop l.other-index l.others))
