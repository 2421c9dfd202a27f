use Rattle.std.proofs.Common.{refl}
use Rattle.html5states.proofs.Tellings.{emits_then, emits_stop}
use Rattle.html5states.proofs.teller.Teller.finish_previous_attribute.Goals as goal

pub returns-in_err-emit_unexpected_where-clause-emits : goal.returns-in_err-emit_unexpected_where-clause-emits
returns-in_err-emit_unexpected_where-clause-emits g c =
    emits_stop _ c.from_residual.ensures.1 (rw c.is_odd_at_name.ensures at c.in_err-emit_unexpected_where.ensures) _ refl

pub returns-clause-emits : goal.returns-clause-emits
returns-clause-emits g c =
    emits_then (rw c.is_odd_at_name.ensures at c.in_ok-emit_unexpected_where.ensures) c.finish_attribute.ensures.emits refl
