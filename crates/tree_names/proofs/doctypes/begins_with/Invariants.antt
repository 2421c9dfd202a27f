use Rattle.std.proofs.Common.{◌≡◌, map, drop}
use Rattle.std.specs.Char.{to_ascii_lowercase}
use Rattle.tree_construction.specs.Doctypes.{begins_with}
use Rattle.tree_names.proofs.doctypes.begins_with.Given as goal

-- what is left of the text has to begin with what is left of the beginning
abbrev pub invariant-loop-letter : goal.invariant-loop-letter
invariant-loop-letter l =
    begins_with l.beginning (map to_ascii_lowercase l.text) ≡ begins_with (drop l.letter-index l.beginning) (map to_ascii_lowercase l.left)
