use Rattle.std.proofs.Common.{refl}
use Rattle.html5states.proofs.Tellings.{emits_then, emits_stop}
use Rattle.html5states.proofs.teller.Teller.finish_tag.Goals as goal

pub returns-in_err-finish_attribute-clause-emits : goal.returns-in_err-finish_attribute-clause-emits
returns-in_err-finish_attribute-clause-emits g c =
    emits_stop _ c.from_residual.ensures.1 c.in_err-finish_attribute.ensures.emits _ refl

pub returns-clause-emits : goal.returns-clause-emits
returns-clause-emits g c =
    emits_then c.in_ok-finish_attribute.ensures.emits (rw c.in_ok-finish_attribute.ensures.finished at c.emit_end_tag_errors.ensures) refl
