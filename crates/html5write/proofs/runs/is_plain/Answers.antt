use Rattle.std.proofs.lemmas.Bool.{eqb-true}
use Rattle.html5write.proofs.PlainRuns.{plain-text}
use Rattle.html5write.proofs.runs.is_plain.Goals as goal

pub returns : goal.returns
returns c =
    λ end. plain-text c.args.text.now c.first_from.result c.utf8.text (rw c.as_bytes.ensures.value at c.first_from.ensures) (eqb-true _ _ end)
