use Rattle.std.proofs.Common.{false, arith}
use Rattle.std.proofs.lemmas.List.{get_or-replicate}
use Rattle.html5policy.specs.Marks.{slot_of}
use Rattle.html5policy.proofs.marks.Marks.none.Goals as goal

pub returns : goal.returns
unfolding slot_of
returns c = λ name. get_or-replicate 64 (slot_of name) false false (omega arith)
