use Rattle.std.proofs.Common.{◌≡◌, [], drop, map}
use Rattle.markup5ever.specs.Names.{attribute_of}
use Rattle.tree_lines.specs.Lines.{in_order_with}
use Rattle.tree_lines.specs.Shown.{shown}
use Rattle.tree_lines.proofs.attributes.in_order.Given as goal

abbrev pub invariant-loop-attribute : goal.invariant-loop-attribute
invariant-loop-attribute g l =
    in_order_with (shown l.ordered.items) (map attribute_of (drop l.attribute-index l.attributes)) ≡ in_order_with [] (map attribute_of l.attributes)
