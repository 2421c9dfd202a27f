-- Attributes that are kept by reference, in the words of the definition.
use Rattle.std.specs.Prelude.{List, map}
use Rattle.std.specs.Borrow.{Bor}
use Rattle.markup5ever.specs.Names.{AttributeOf, attribute_of}
use Rattle.markup5ever.specs.declared.interface.Attribute.{Attribute}

abbrev pub seen : {Z : Type 0} → Bor (Attribute Z) → AttributeOf
seen attribute = attribute_of attribute.now

abbrev pub shown : {Z : Type 0} → List (Bor (Attribute Z)) → List AttributeOf
shown attributes = map seen attributes
