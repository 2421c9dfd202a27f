use Rattle.markup5ever.specs.Blocks.{NoneWithin}
use Rattle.markup5ever.specs.SmallCharSet.{IsMember}
use Rattle.markup5ever.proofs.small_char_set.SmallCharSetSought.first_in_rest.Given as goal

abbrev pub invariant-loop-at : goal.invariant-loop-at
invariant-loop-at l = NoneWithin (IsMember l.self) l.bytes l.from l.at
