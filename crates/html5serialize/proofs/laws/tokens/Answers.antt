use Rattle.html5serialize.proofs.TokensBack.{tokens-read_back, tokens-whole}
use Rattle.html5serialize.proofs.laws.tokens.Goals as goal

pub returns-clause-tells : goal.returns-clause-tells
returns-clause-tells g c = λ rules K s tokens table here texts can keeps. tokens-read_back g.S.TokenSink.means rules K s tokens table here texts can keeps

pub returns-clause-alone : goal.returns-clause-alone
returns-clause-alone g c = λ rules K s tokens table here texts can keeps. tokens-whole g.S.TokenSink.means rules K s tokens table here texts can keeps
