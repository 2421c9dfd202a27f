use Rattle.std.proofs.Common.{◌≡◌, ℕ, List, map, drop}
use Rattle.tree_construction.specs.Adjusting.{adjusted_name, foreign_attributes}
use Rattle.tree_names.specs.ForeignNames.{foreign_of}
use Rattle.tree_names.proofs.adjusting.foreign_attribute.Given as goal

-- none before this one is written so
abbrev pub invariant-loop-row : goal.invariant-loop-row
invariant-loop-row l =
    (cases : List (List ℕ)) → adjusted_name foreign_attributes cases l.name ≡ adjusted_name (map foreign_of (drop l.row-index l.row-items)) cases l.name
