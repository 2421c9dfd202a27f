use Rattle.html5write.proofs.Refused.{none-refusal_of}
use Rattle.html5write.proofs.laws.refusals.Goals as goal

pub returns : goal.returns
returns c = λ piece. none-refusal_of piece
