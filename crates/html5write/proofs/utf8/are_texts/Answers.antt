use Rattle.html5write.proofs.Said.{said-next, said-none}
use Rattle.html5write.proofs.utf8.are_texts.Goals as goal

pub loop-attribute-preserved : goal.loop-attribute-preserved
loop-attribute-preserved c =
    λ later. c.loop-attribute.invariant (said-next c.loop-attribute.attribute-index c.args.attributes.now _ c.loop-attribute-test.true c.is_text.ensures c.is_text-in-loop-attribute.ensures later)

pub returns : goal.returns
returns c = c.loop-attribute.invariant (said-none c.loop-attribute.attribute-index c.args.attributes.now c.loop-attribute-test.false)
