use Rattle.std.proofs.Common.{ap, ◌∙◌}
use Rattle.std.specs.Str.{chars}
use Rattle.std.proofs.lemmas.Str.{chars-nil}
use Rattle.html5partial.proofs.letters.clear_letters.Goals as goal

pub returns : goal.returns
returns g c = ap chars c.clear.ensures.bytes ∙ chars-nil
