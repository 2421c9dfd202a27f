use Rattle.html5reading.specs.Reading.{all_messages}
use Rattle.html5write.specs.Told.{tokens_of}
use Rattle.html5serialize.proofs.EachToken.{all-tokens}
use Rattle.html5serialize.proofs.TokensBack.{tokens-whole}
use Rattle.html5serialize.proofs.laws.read_again.Goals as goal

pub returns : goal.returns
returns g c = λ rules K later s t text table clean here texts keeps.
    tokens-whole g.S.TokenSink.means rules later t (tokens_of (all_messages g.S.TokenSink.means rules K s text)) table here texts (all-tokens g.S.TokenSink.means rules K s text table clean) keeps
