use Rattle.html5serialize.proofs.RawKinds.{raw-text}
use Rattle.html5serialize.proofs.laws.raw_text.Goals as goal

pub returns : goal.returns
returns g c = λ rules K s kind name text table here utf8 can. raw-text g.S.TokenSink.means rules K s kind name text table here utf8 can
