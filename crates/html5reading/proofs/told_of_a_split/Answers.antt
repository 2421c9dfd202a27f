use Rattle.html5reading.proofs.Splitting.{told-within}
use Rattle.html5reading.proofs.told_of_a_split.Goals as goal

pub returns : goal.returns
returns g c = λ rules K s text more.
    told-within g.S.TokenSink.means.step g.S.TokenSink.means.reply g.S.TokenSink.means.foreign rules K s text more
