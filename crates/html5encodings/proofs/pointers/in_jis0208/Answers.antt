use Rattle.std.proofs.Common.{ap, ◌∙◌}
use Rattle.html5encodings.specs.Steps.{code_point_at}
use Rattle.html5encodings.proofs.Tables.{JIS0208-is}
use Rattle.html5encodings.proofs.pointers.in_jis0208.Goals as goal

pub returns : goal.returns
returns c = c.character_at.ensures ∙ ap (λ t. code_point_at t c.args.pointer) JIS0208-is
