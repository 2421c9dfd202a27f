use Rattle.std.proofs.Common.{◌≡◌, map, drop}
use Rattle.std.specs.Char.{to_ascii_lowercase}
use Rattle.tree_construction.specs.Doctypes.{begins_with_one}
use Rattle.tree_names.proofs.doctypes.begins_with_one.Given as goal

-- the identifier begins with none before this one
abbrev pub invariant-loop-beginning : goal.invariant-loop-beginning
invariant-loop-beginning l =
    begins_with_one (map (λ other. other.now) l.beginnings) (map to_ascii_lowercase l.id)
    ≡ begins_with_one (map (λ other. other.now) (drop l.beginning-index l.beginnings)) (map to_ascii_lowercase l.id)
