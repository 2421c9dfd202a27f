use Rattle.std.proofs.lemmas.Str.{encodes-chars}
use Rattle.html5write.proofs.checks.are_different.Goals as goal

pub returns : goal.returns
returns c = rw (encodes-chars c.args.name.now c.utf8.name, encodes-chars c.args.other.now c.utf8.other) c.ne.ensures
