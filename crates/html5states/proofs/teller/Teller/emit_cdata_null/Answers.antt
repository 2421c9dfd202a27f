use Rattle.std.proofs.Common.{refl}
use Rattle.html5states.proofs.Tellings.{emits_then, emits_stop}
use Rattle.html5states.proofs.teller.Teller.emit_cdata_null.Goals as goal

pub returns-in_err-emit_piece : goal.returns-in_err-emit_piece
returns-in_err-emit_piece g c = emits_stop _ c.from_residual.ensures.1 c.in_err-emit_piece.ensures _ refl

pub returns : goal.returns
returns g c = emits_then c.in_ok-emit_piece.ensures c.emit.ensures refl
