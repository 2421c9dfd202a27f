use Rattle.std.proofs.Common.{take}
use Rattle.tree_builder.specs.Characters.{AllOf}
use Rattle.tree_builder.proofs.text_search.run_len.Given as goal

abbrev pub invariant-loop-at : goal.invariant-loop-at
invariant-loop-at l = AllOf l.class (take l.at l.bytes)
