use Rattle.std.proofs.Common.{◌≡◌, ◌++◌, map, drop}
use Rattle.markup5ever.specs.Names.{attribute_of}
use Rattle.html5write.specs.Writing as writing
use Rattle.html5rewrite.specs.Plain.{attribute_chars, plain_attributes}
use Rattle.html5rewrite.proofs.attributes.plain_attributes.Given as goal

-- those that were found, and then the later ones that are to be found
abbrev pub invariant-loop-attribute : goal.invariant-loop-attribute
invariant-loop-attribute g l =
    map writing.attribute_of l.plain.items ++ plain_attributes (map attribute_chars (map attribute_of (drop l.attribute-index l.attributes)))
    ≡ plain_attributes (map attribute_chars (map attribute_of l.attributes))
