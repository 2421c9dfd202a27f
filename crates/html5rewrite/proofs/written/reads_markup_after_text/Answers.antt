use Rattle.std.proofs.lemmas.Str.{encodes-chars}
use Rattle.html5rewrite.proofs.written.reads_markup_after_text.Goals as goal

pub returns : goal.returns
returns c = rw (encodes-chars c.args.name.now c.utf8.name) c.reads_markup_after.ensures
