use Rattle.std.proofs.Common.{◌≡◌, ◌++◌, map, take}
use Rattle.std.specs.List.{flat_map}
use Rattle.html5records.specs.Records.{attribute_record}
use Rattle.markup5ever.specs.Names.{attribute_of}
use Rattle.html5records.proofs.records.push_each_attribute.Given as goal

abbrev pub invariant-loop-attribute : goal.invariant-loop-attribute
invariant-loop-attribute g l =
    l.written.items ≡ l.fn.written.items ++ flat_map attribute_record (map attribute_of (take l.attribute-index l.attributes))
