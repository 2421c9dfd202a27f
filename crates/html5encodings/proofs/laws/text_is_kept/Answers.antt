use Rattle.html5encodings.proofs.Runs.{decoded-text}
use Rattle.html5encodings.proofs.laws.text_is_kept.Goals as goal

pub returns : goal.returns
returns c = decoded-text
