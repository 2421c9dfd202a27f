use Rattle.std.proofs.Common.{refl}
use Rattle.html5states.proofs.Tellings.{emits_then, emits_stop}
use Rattle.html5states.proofs.teller.Teller.end_after.Goals as goal

pub returns-in_err-emit_char : goal.returns-in_err-emit_char
unfolding lib.Utf8.encode
returns-in_err-emit_char g c = emits_stop _ c.from_residual.ensures.1 c.in_err-emit_char.ensures _ refl

pub returns : goal.returns
unfolding lib.Utf8.encode
returns g c = emits_then c.in_ok-emit_char.ensures c.emit.ensures refl
