use Rattle.std.proofs.Common.{◌≡◌, ◌++◌, map, take}
use Rattle.token_printer.specs.Printed.{open_attributes}
use Rattle.markup5ever.specs.Names.{attribute_of}
use Rattle.token_printer.proofs.printed.push_attributes.Given as goal

abbrev pub invariant-loop-attribute : goal.invariant-loop-attribute
invariant-loop-attribute g l =
    l.output.items ≡ l.fn.output.items ++ open_attributes (map attribute_of (take l.attribute-index l.attributes))
