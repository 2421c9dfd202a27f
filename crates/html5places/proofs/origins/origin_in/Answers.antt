use Rattle.std.proofs.Common.{Some, ◌∙◌, ap, sym}
use Rattle.html5places.proofs.OriginBytes.{origin-here, origin-later, origin-none}
use Rattle.html5places.proofs.origins.origin_in.Goals as goal

pub returns-then-left-stretch : goal.returns-then-left-stretch
returns-then-left-stretch c =
    ap (λ o. Some o) c.further.ensures
    ∙ sym (c.loop-stretch.invariant ∙ origin-here c.args.stretches.now c.loop-stretch.stretch-index c.loop-stretch.left _ c.loop-stretch-test.true c.if-left-stretch.true)

pub loop-stretch-preserved : goal.loop-stretch-preserved
loop-stretch-preserved c =
    c.loop-stretch.invariant
    ∙ origin-later c.args.stretches.now c.loop-stretch.stretch-index c.loop-stretch.left _ c.loop-stretch-test.true c.if-left-stretch.false

pub returns : goal.returns
returns c = sym (c.loop-stretch.invariant ∙ origin-none c.args.stretches.now c.loop-stretch.stretch-index c.loop-stretch.left c.loop-stretch-test.false)
