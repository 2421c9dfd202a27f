use Rattle.std.proofs.Common.{◌≡◌, ◌++◌, drop, map}
use Rattle.html5json.specs.Tokens.{attribute_items}
use Rattle.json.specs.Tree.{items_tokens}
use Rattle.markup5ever.specs.Names.{attribute_of}
use Rattle.html5json.proofs.tokens.write_attribute_items.Given as goal

abbrev pub invariant-loop-attribute : goal.invariant-loop-attribute
invariant-loop-attribute g l =
    (l.writer.tokens ++ items_tokens (attribute_items (map attribute_of (drop l.attribute-index l.attributes)))
    ≡ l.initial.writer.tokens ++ items_tokens (attribute_items (map attribute_of l.attributes)))
    × (l.writer.before ≡ l.initial.writer.before)
