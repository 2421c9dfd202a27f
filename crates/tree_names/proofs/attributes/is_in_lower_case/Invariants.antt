use Rattle.std.proofs.Common.{◌≡◌, drop}
use Rattle.tree_construction.specs.Names.{matches}
use Rattle.tree_names.proofs.attributes.is_in_lower_case.Given as goal

-- what is left of the value has to be what is left of the text
abbrev pub invariant-loop-letter : goal.invariant-loop-letter
invariant-loop-letter l = matches l.text l.value ≡ matches (drop l.letter-index l.text) l.left
