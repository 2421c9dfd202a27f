use Rattle.html5reading.proofs.LawfulReading.{lawful-reading}
use Rattle.html5reading.proofs.lawful_tokens.Goals as goal

pub returns : goal.returns
returns g c = λ rules K s text table clean. lawful-reading g.S.TokenSink.means.step g.S.TokenSink.means.reply g.S.TokenSink.means.foreign rules K s text table clean
