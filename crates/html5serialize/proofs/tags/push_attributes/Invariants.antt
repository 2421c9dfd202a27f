use Rattle.std.proofs.Common.{◌≡◌, ◌++◌, map, drop, string_bytes}
use Rattle.std.specs.Prelude.{encode_utf8_all}
use Rattle.markup5ever.specs.Names.{attribute_of}
use Rattle.html5serialize.specs.Tags.{attributes_text_by}
use Rattle.html5serialize.proofs.tags.push_attributes.Given as goal

abbrev pub invariant-loop-attribute : goal.invariant-loop-attribute
invariant-loop-attribute g l =
    string_bytes l.out ++ encode_utf8_all (attributes_text_by l.escapes (map attribute_of (drop l.attribute-index l.attributes)))
    ≡ string_bytes l.initial.out ++ encode_utf8_all (attributes_text_by l.escapes (map attribute_of l.attributes))
