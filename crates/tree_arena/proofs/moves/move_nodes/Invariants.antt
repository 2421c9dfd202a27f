use Rattle.std.proofs.Common.{◌≡◌, ◌++◌, map, drop, take}
use Rattle.tree_construction.specs.Document.{moved}
use Rattle.tree_arena.specs.Rows.{plain_row}
use Rattle.tree_arena.proofs.moves.move_nodes.Given as goal

-- those before this one are moved, and the others as they were
abbrev pub invariant-loop-at : goal.invariant-loop-at
invariant-loop-at g l =
    map plain_row l.nodes
    ≡ map (moved l.source.0 l.target.0) (map plain_row (take l.at l.initial.nodes)) ++ map plain_row (drop l.at l.initial.nodes)
