use Rattle.std.proofs.Common.{◌≡◌, map, drop}
use Rattle.std.specs.Char.{to_ascii_lowercase}
use Rattle.tree_construction.specs.Names.{is_among}
use Rattle.tree_names.proofs.doctypes.is_among.Given as goal

-- none before this one is the identifier
abbrev pub invariant-loop-other : goal.invariant-loop-other
invariant-loop-other l =
    is_among (map to_ascii_lowercase l.id) (map (λ other. other.now) l.ids)
    ≡ is_among (map to_ascii_lowercase l.id) (map (λ other. other.now) (drop l.other-index l.ids))
