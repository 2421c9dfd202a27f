use Rattle.std.proofs.Common.{◌+◌, ◌-◌, sym, ◌∙◌, arith}
use Rattle.html5records.proofs.ReadBack.{after_attributes-next, after_attributes-stuck, after_attributes-none}
use Rattle.html5records.proofs.reading.after_attributes.Goals as goal

pub loop-preserved : goal.loop-preserved
loop-preserved c =
    sym (after_attributes-next (c.args.count - c.loop.counter) (c.args.count - (c.loop.counter + 1)) c.loop.rest.now c.in_ok-rest.field-0-1.now _ (omega arith) c.in_ok-rest.ensures) ∙ c.loop.invariant

pub returns-in_err-rest : goal.returns-in_err-rest
returns-in_err-rest c =
    rw c.from_residual.ensures
    (sym (after_attributes-stuck (c.args.count - c.loop.counter) (c.args.count - (c.loop.counter + 1)) c.loop.rest.now (omega arith) c.in_err-rest.ensures) ∙ c.loop.invariant)

pub returns : goal.returns
returns c = sym (after_attributes-none _ c.loop.rest.now (omega arith)) ∙ c.loop.invariant
