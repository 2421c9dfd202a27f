use Rattle.html5errors.proofs.FormedReading.{formed-reading}
use Rattle.html5errors.proofs.laws.errors_have_forms.Goals as goal

pub returns : goal.returns
returns g c = λ rules K s text plain. formed-reading g.S.TokenSink.means.step g.S.TokenSink.means.reply g.S.TokenSink.means.foreign rules plain K s text
