use Rattle.std.proofs.Common.{refl}
use Rattle.html5states.proofs.Tellings.{emits_then, emits_stop}
use Rattle.html5states.proofs.teller.Teller.emit_null.Goals as goal

pub returns-in_err-emit_unexpected : goal.returns-in_err-emit_unexpected
returns-in_err-emit_unexpected g c = emits_stop _ c.from_residual.ensures.1 c.in_err-emit_unexpected.ensures _ refl

pub returns : goal.returns
returns g c = emits_then c.in_ok-emit_unexpected.ensures c.emit.ensures refl
