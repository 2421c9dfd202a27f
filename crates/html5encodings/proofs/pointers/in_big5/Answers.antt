use Rattle.std.proofs.Common.{ap, ◌∙◌}
use Rattle.html5encodings.specs.Steps.{code_point_at}
use Rattle.html5encodings.proofs.Tables.{BIG5-is}
use Rattle.html5encodings.proofs.pointers.in_big5.Goals as goal

pub returns : goal.returns
returns c = c.character_at.ensures ∙ ap (λ t. code_point_at t c.args.pointer) BIG5-is
