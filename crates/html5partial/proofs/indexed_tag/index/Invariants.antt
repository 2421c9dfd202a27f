use Rattle.std.proofs.Common.{map, take}
use Rattle.markup5ever.specs.Names.{attribute_of}
use Rattle.html5partial.specs.IndexedTag.{HasNames}
use Rattle.html5partial.proofs.indexed_tag.index.Given as goal

abbrev pub invariant-loop-attribute : goal.invariant-loop-attribute
invariant-loop-attribute g l = HasNames l.names (map attribute_of (take l.attribute-index l.attributes))
