use Rattle.html5grammar.proofs.Completeness.{all-composed}
use Rattle.html5grammar.proofs.each_text.Goals as goal

pub returns : goal.returns
returns g c = λ rules K s text clean. all-composed g.S.TokenSink.means rules K s text clean
