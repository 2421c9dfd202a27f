use Rattle.html5serialize.proofs.RustTexts.{texts-token}
use Rattle.html5serialize.proofs.laws.has_texts.Goals as goal

pub returns : goal.returns
returns g c = texts-token c.args.token.now
