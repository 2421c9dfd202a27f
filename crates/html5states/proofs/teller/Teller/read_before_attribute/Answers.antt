use Rattle.std.proofs.Common.{refl}
use Rattle.html5states.proofs.Tellings.{reads_then, reads_stop}
use Rattle.html5states.proofs.teller.Teller.read_before_attribute.Goals as goal

pub returns-in_err-emit_unexpected : goal.returns-in_err-emit_unexpected
returns-in_err-emit_unexpected g c = reads_stop _ c.from_residual.ensures.1 c.in_err-emit_unexpected.ensures _ refl refl

pub returns : goal.returns
returns g c = reads_then c.in_ok-emit_unexpected.ensures c.before_attribute_name_state.ensures (rw c.in_ok-emit_unexpected.ensures.kept.exact_errors refl) refl
