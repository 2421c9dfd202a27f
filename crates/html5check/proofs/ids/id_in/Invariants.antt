use Rattle.std.proofs.Common.{◌≡◌, map, drop}
use Rattle.html5check.specs.Ids.{id_in}
use Rattle.markup5ever.specs.Names.{attribute_of}
use Rattle.html5check.proofs.ids.id_in.Given as goal

abbrev pub invariant-loop-attribute : goal.invariant-loop-attribute
invariant-loop-attribute l = id_in (map attribute_of l.attributes) ≡ id_in (map attribute_of (drop l.attribute-index l.attributes))
