use Rattle.std.proofs.Common.{refl}
use Rattle.html5states.proofs.Tellings.{emits_then, emits_stop}
use Rattle.html5states.proofs.teller.Teller.end_unexpected.Goals as goal

pub returns-in_err-emit_end_error : goal.returns-in_err-emit_end_error
unfolding lib.Utf8.encode
returns-in_err-emit_end_error g c = emits_stop _ c.from_residual.ensures.1 c.in_err-emit_end_error.ensures _ refl

pub returns : goal.returns
unfolding lib.Utf8.encode
returns g c = emits_then c.in_ok-emit_end_error.ensures c.emit.ensures refl
