use Rattle.html5serialize.proofs.Refused.{none-refusal_of}
use Rattle.html5serialize.proofs.laws.refusals.Goals as goal

pub returns : goal.returns
returns c = λ token. none-refusal_of token
