use Rattle.std.proofs.Common.{◌≡◌, ◌++◌, drop}
use Rattle.tree_lines.specs.Lines.{attribute_lines}
use Rattle.tree_lines.specs.Shown.{shown}
use Rattle.tree_lines.proofs.attributes.push_attributes.Given as goal

abbrev pub invariant-loop-attribute : goal.invariant-loop-attribute
invariant-loop-attribute g l =
    l.output.items ++ attribute_lines l.depth (shown (drop l.attribute-index l.attribute-items))
    ≡ l.initial.output.items ++ attribute_lines l.depth (shown l.attribute-items)
