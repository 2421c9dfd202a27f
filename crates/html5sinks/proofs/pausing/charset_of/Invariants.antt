use Rattle.std.proofs.Common.{◌≡◌, map, drop}
use Rattle.html5sinks.specs.Pausing.{charset_of}
use Rattle.markup5ever.specs.Names.{attribute_of}
use Rattle.html5sinks.proofs.pausing.charset_of.Given as goal

abbrev pub invariant-loop-attribute : goal.invariant-loop-attribute
invariant-loop-attribute g l =
    charset_of (map attribute_of l.attributes) ≡ charset_of (map attribute_of (drop l.attribute-index l.attributes))
