use Rattle.std.proofs.Common.{◌∙◌}
use Rattle.html5cleaner.proofs.NameLemmas.{same-characters}
use Rattle.html5cleaner.proofs.names.is_same.Goals as goal

pub returns : goal.returns
returns c = c.eq.ensures ∙ same-characters c.args.name.now c.args.other.now c.utf8.name c.utf8.other
