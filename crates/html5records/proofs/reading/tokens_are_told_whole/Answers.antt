use Rattle.html5records.proofs.Whole.{IsToldWhole-told_by}
use Rattle.html5records.proofs.reading.tokens_are_told_whole.Goals as goal

pub returns : goal.returns
returns g c = IsToldWhole-told_by c.args._token.now
