use Rattle.std.proofs.Common.{◌≡◌, ◌++◌, map, take, drop}
use Rattle.markup5ever.specs.Names.{attribute_of}
use Rattle.tree_construction.specs.Adjusting.{adjusted_in}
use Rattle.tree_names.proofs.adjusting.adjust_names.Given as goal

-- those before this one are adjusted, and the others as they were
abbrev pub invariant-loop-at : goal.invariant-loop-at
invariant-loop-at g l =
    map attribute_of l.attributes.items
    ≡ map (adjusted_in (map (λ other. other.now) l.cases)) (map attribute_of (take l.at l.initial.attributes.items))
    ++ map attribute_of (drop l.at l.initial.attributes.items)
