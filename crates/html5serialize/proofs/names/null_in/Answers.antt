use Rattle.std.proofs.Common.{◌+◌, Some, sym, ap, ◌∙◌, drop}
use Rattle.std.specs.Prelude.{if◌then◌else◌}
use Rattle.std.proofs.lemmas.Bool.{eq-eqb, ne_eqb}
use Rattle.html5serialize.specs.Refusals.{null_from}
use Rattle.html5serialize.proofs.Words.{null-next, null-none}
use Rattle.html5serialize.proofs.names.null_in.Goals as goal

pub loop-at-init : goal.loop-at-init
loop-at-init c = ap (null_from 0) (sym c.as_bytes-byte-items.ensures.value)

pub returns-then-byte-eq0 : goal.returns-then-byte-eq0
returns-then-byte-eq0 c =
    let i = c.loop-at.at in
    let bytes = c.as_bytes-byte-items.result.now in
    sym (c.loop-at.invariant
    ∙ null-next bytes i c.loop-at-test.true
    ∙ ap (λ b. if b then Some i else null_from (i + 1) (drop (i + 1) bytes)) (eq-eqb _ 0 c.if-byte-eq0.true))

pub loop-at-preserved : goal.loop-at-preserved
loop-at-preserved c =
    let i = c.loop-at.at in
    let bytes = c.as_bytes-byte-items.result.now in
    c.loop-at.invariant
    ∙ null-next bytes i c.loop-at-test.true
    ∙ ap (λ b. if b then Some i else null_from (i + 1) (drop (i + 1) bytes)) (ne_eqb _ 0 c.if-byte-eq0.false)

pub returns : goal.returns
returns c = sym (c.loop-at.invariant ∙ null-none c.as_bytes-byte-items.result.now c.loop-at.at c.loop-at-test.false)
