use Rattle.std.proofs.Common.{ℕ, ◌↔◌, Contains, take}
use Rattle.markup5ever.specs.SmallCharSet.{IsMember}
use Rattle.markup5ever.proofs.small_char_set.SmallCharSet.of.Given as goal

abbrev pub invariant-loop-member : goal.invariant-loop-member
invariant-loop-member l = (c : ℕ) → IsMember l.bits c ↔ Contains (take l.member-index l.members) c
