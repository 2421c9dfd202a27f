use Rattle.html5reading.proofs.ReadingLemmas.{told-append}
use Rattle.html5reading.proofs.beginning.Goals as goal

pub returns : goal.returns
returns g c = λ exact K s text rest. (_, told-append g.S.TokenSink.means.step g.S.TokenSink.means.reply g.S.TokenSink.means.foreign exact K s text rest)
