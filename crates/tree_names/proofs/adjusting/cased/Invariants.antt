use Rattle.std.proofs.Common.{◌≡◌, map, drop}
use Rattle.tree_construction.specs.Adjusting.{cased}
use Rattle.tree_names.proofs.adjusting.cased.Given as goal

-- none before this one is the name in another case
abbrev pub invariant-loop-other : goal.invariant-loop-other
invariant-loop-other l =
    cased (map (λ other. other.now) l.names) l.name ≡ cased (map (λ other. other.now) (drop l.other-index l.names)) l.name
