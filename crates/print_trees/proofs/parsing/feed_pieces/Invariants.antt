use Rattle.std.proofs.Common.{◌≡◌, false}
use Rattle.print_trees.proofs.parsing.feed_pieces.Given as goal

abbrev pub invariant-loop-at : goal.invariant-loop-at
invariant-loop-at l = l.tokenizer.ended ≡ false
