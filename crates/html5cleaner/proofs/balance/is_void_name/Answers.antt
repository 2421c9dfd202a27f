use Rattle.std.proofs.lemmas.Str.{encodes-chars}
use Rattle.html5cleaner.proofs.balance.is_void_name.Goals as goal

pub returns : goal.returns
returns c = rw (encodes-chars c.args.name.now c.utf8.name) c.is_void.ensures
