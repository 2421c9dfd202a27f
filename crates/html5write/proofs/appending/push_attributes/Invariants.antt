use Rattle.std.proofs.Common.{◌≡◌, ◌++◌, map, drop, string_bytes}
use Rattle.std.specs.Prelude.{encode_utf8_all, flat_map}
use Rattle.markup5ever.specs.Lists.{BeginsWith}
use Rattle.html5write.specs.Pieces.{attribute_text}
use Rattle.html5write.specs.Writing.{attribute_of}
use Rattle.html5write.proofs.appending.push_attributes.Given as goal

abbrev pub invariant-loop-attribute : goal.invariant-loop-attribute
invariant-loop-attribute g l =
    (string_bytes l.out ++ encode_utf8_all (flat_map attribute_text (map attribute_of (drop l.attribute-index l.attributes)))
    ≡ string_bytes l.initial.out ++ encode_utf8_all (flat_map attribute_text (map attribute_of l.attributes)))
    × BeginsWith (string_bytes l.out) (string_bytes l.initial.out)
