use Rattle.std.proofs.lemmas.Str.{encodes-chars}
use Rattle.html5write.proofs.utf8.is_text.Goals as goal

pub returns : goal.returns
returns c = encodes-chars c.args.text.now c.utf8.text
