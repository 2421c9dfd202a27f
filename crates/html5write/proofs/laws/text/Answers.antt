use Rattle.html5write.proofs.Texts.{text-told}
use Rattle.html5write.proofs.laws.text.Goals as goal

pub returns : goal.returns
returns g c = λ rules K s text here nulls. text-told g.S.TokenSink.means rules K s text here nulls
