use Rattle.std.proofs.Common.{refl}
use Rattle.html5states.proofs.Tellings.{emits_then, emits_stop}
use Rattle.html5states.proofs.teller.Teller.end_in_cdata.Goals as goal

pub returns-in_err-emit_piece : goal.returns-in_err-emit_piece
returns-in_err-emit_piece g c =
    emits_stop _ c.from_residual-in_err-emit_piece.ensures.1 (rw c.in_ok-from_str.ensures.ok at c.in_err-emit_piece.ensures) _ refl

pub returns : goal.returns
returns g c =
    emits_then (rw c.in_ok-from_str.ensures.ok at c.in_ok-emit_piece.ensures) c.end_unexpected.ensures (rw c.in_ok-emit_piece.ensures.kept.exact_errors refl)
