use Rattle.std.proofs.Common.{◌+◌, sym, ap, ◌∙◌, drop, map}
use Rattle.std.specs.Option.{option_or}
use Rattle.html5write.specs.Refusals.{attributes_refusal}
use Rattle.html5write.specs.Writing.{attribute_of}
use Rattle.html5write.proofs.Repeats.{refusal-next, refusal-none}
use Rattle.html5write.proofs.checks.attributes_refusal.Goals as goal

pub returns-in-Some : goal.returns-in-Some
returns-in-Some c =
    let i = c.loop-index.index in
    sym (c.loop-index.invariant
    ∙ refusal-next i c.args.attributes.now _ c.loop-index-test.true
    ∙ ap (λ r. option_or r (attributes_refusal (i + 1) (map attribute_of (drop (i + 1) c.args.attributes.now)))) (sym c.in-Some.ensures))

pub loop-index-preserved : goal.loop-index-preserved
loop-index-preserved c =
    let i = c.loop-index.index in
    c.loop-index.invariant
    ∙ refusal-next i c.args.attributes.now _ c.loop-index-test.true
    ∙ ap (λ r. option_or r (attributes_refusal (i + 1) (map attribute_of (drop (i + 1) c.args.attributes.now)))) (sym c.in-None.ensures)

pub returns : goal.returns
returns c = sym (c.loop-index.invariant ∙ refusal-none c.loop-index.index c.args.attributes.now c.loop-index-test.false)
