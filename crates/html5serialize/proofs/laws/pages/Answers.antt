use Rattle.html5serialize.proofs.PagesBack.{parts-read_back, parts-whole}
use Rattle.html5serialize.proofs.laws.pages.Goals as goal

pub returns-clause-tells : goal.returns-clause-tells
returns-clause-tells g c = λ rules K s parts table here texts can asks. parts-read_back g.S.TokenSink.means rules K s parts table here texts can asks

pub returns-clause-alone : goal.returns-clause-alone
returns-clause-alone g c = λ rules K s parts table here texts can asks. parts-whole g.S.TokenSink.means rules K s parts table here texts can asks
