use Rattle.html5serialize.proofs.EachToken.{each-token}
use Rattle.html5serialize.proofs.laws.each_token.Goals as goal

pub returns : goal.returns
returns g c = λ rules K s text table clean. each-token g.S.TokenSink.means rules K s text table clean
