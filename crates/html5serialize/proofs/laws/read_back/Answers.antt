use Rattle.html5serialize.proofs.BackTokens.{token-reads_back}
use Rattle.html5serialize.proofs.laws.read_back.Goals as goal

pub returns : goal.returns
returns g c = λ rules K s token table here texts can. token-reads_back g.S.TokenSink.means rules K s token table here texts can
