use Rattle.std.proofs.Common.{◌≡◌, drop}
use Rattle.markup5ever.specs.Names.{attribute_of}
use Rattle.tree_lines.specs.Lines.{comes_before, shown_name}
use Rattle.tree_lines.proofs.names.comes_before.Given as goal

-- the bytes before this one are the same
abbrev pub invariant-loop-at : goal.invariant-loop-at
invariant-loop-at g l =
    let name = shown_name (attribute_of l.attribute) in
    let other = shown_name (attribute_of l.other) in
    comes_before name other ≡ comes_before (drop l.at name) (drop l.at other)
