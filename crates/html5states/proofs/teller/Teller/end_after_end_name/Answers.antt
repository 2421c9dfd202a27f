use Rattle.std.proofs.Common.{refl}
use Rattle.html5states.proofs.Tellings.{emits_then, emits_stop}
use Rattle.html5states.proofs.teller.Teller.end_after_end_name.Goals as goal

pub returns-in_err-emit_end_name : goal.returns-in_err-emit_end_name
returns-in_err-emit_end_name g c = emits_stop _ c.from_residual.ensures.1 c.in_err-emit_end_name.ensures _ refl

pub returns : goal.returns
returns g c = emits_then c.in_ok-emit_end_name.ensures c.end_raw_text.ensures (rw c.in_ok-emit_end_name.ensures.kept.exact_errors refl)
