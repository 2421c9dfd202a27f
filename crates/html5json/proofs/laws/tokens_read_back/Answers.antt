use Rattle.html5json.proofs.ReadBack.{token_reads_back}
use Rattle.html5json.proofs.laws.tokens_read_back.Goals as goal

pub returns : goal.returns
returns c = token_reads_back
