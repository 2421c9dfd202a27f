use Rattle.std.proofs.Common.{sym, arith}
use Rattle.html5write.proofs.PlainRuns.{null-first, null-nowhere}
use Rattle.html5write.proofs.checks.null_in.Goals as goal

pub returns-then-at-text : goal.returns-then-at-text
returns-then-at-text c = sym (null-first c.args.text.now c.first_null-at.result c.utf8.text (rw c.as_bytes.ensures.value at c.first_null-at.ensures) c.if-at-text.true)

pub returns-else-at-text : goal.returns-else-at-text
returns-else-at-text c =
    sym (null-nowhere c.args.text.now c.first_null-at.result c.utf8.text (rw c.as_bytes.ensures.value at c.first_null-at.ensures) (omega (arith, c.if-at-text.false)))
