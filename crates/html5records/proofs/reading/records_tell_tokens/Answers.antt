use Rattle.html5records.proofs.ReadBack.{records_of-equal}
use Rattle.html5records.proofs.reading.records_tell_tokens.Goals as goal

pub returns : goal.returns
returns c = records_of-equal
