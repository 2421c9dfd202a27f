use Rattle.html5serialize.proofs.Refused.{none-raw_refusal}
use Rattle.html5serialize.proofs.laws.raw_refusals.Goals as goal

pub returns : goal.returns
returns c = λ kind name text. none-raw_refusal kind name text
