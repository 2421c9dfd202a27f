use Rattle.std.proofs.Common.{◌≡◌, ◌++◌, chars, filter, map, drop}
use Rattle.markup5ever.specs.Names.{attribute_of}
use Rattle.html5write.specs.Writing as writing
use Rattle.html5cleaner.specs.Allowed.{is_kept_attribute}
use Rattle.html5cleaner.specs.Clean.{attribute_chars}
use Rattle.html5cleaner.proofs.attributes.filtered_attributes.Given as goal

-- those that were kept, and then the later ones that are to be kept
abbrev pub invariant-loop-attribute : goal.invariant-loop-attribute
invariant-loop-attribute g l =
    map writing.attribute_of l.kept.items ++ filter (is_kept_attribute l.policy (chars l.element)) (map attribute_chars (map attribute_of (drop l.attribute-index l.attributes)))
    ≡ filter (is_kept_attribute l.policy (chars l.element)) (map attribute_chars (map attribute_of l.attributes))
