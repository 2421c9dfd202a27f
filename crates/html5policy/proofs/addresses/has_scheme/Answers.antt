use Rattle.std.proofs.Common.{sym, ◌∙◌}
use Rattle.html5policy.proofs.Colons.{colon-left}
use Rattle.html5policy.proofs.addresses.has_scheme.Goals as goal

pub returns-in_default : goal.returns-in_default
returns-in_default c =
    sym (c.loop-byte.invariant
    ∙ colon-left c.args.address.now c.loop-byte.left.now c.loop-byte.byte-index c.loop-byte-test.true (sym c.is_passed_over.ensures ∙ c.if-is_passed_over.false) c.in_default.ensures.cases)
