use Rattle.html5write.proofs.PlainRuns.{BeginsPlain-stops}
use Rattle.html5write.proofs.runs.plain_prefix_len.Goals as goal

pub returns : goal.returns
returns c = BeginsPlain-stops c.args.text.now c.first_from.result c.utf8.text (rw c.as_bytes.ensures.value at c.first_from.ensures)
