use Rattle.std.proofs.Common.{refl}
use Rattle.html5states.proofs.Tellings.{emits_then, emits_stop}
use Rattle.html5states.proofs.teller.Teller.end_after_less_than.Goals as goal

pub returns-in_err-emit_after_less_than : goal.returns-in_err-emit_after_less_than
returns-in_err-emit_after_less_than g c = emits_stop _ c.from_residual.ensures.1 c.in_err-emit_after_less_than.ensures _ refl

pub returns : goal.returns
returns g c = emits_then c.in_ok-emit_after_less_than.ensures c.end_raw_text.ensures (rw c.in_ok-emit_after_less_than.ensures.kept.exact_errors refl)
