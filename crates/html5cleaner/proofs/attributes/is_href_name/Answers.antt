use Rattle.std.proofs.lemmas.Str.{encodes-chars}
use Rattle.html5cleaner.proofs.attributes.is_href_name.Goals as goal

pub returns : goal.returns
returns c = rw (encodes-chars c.args.name.now c.utf8.name) c.eq.ensures
