use Rattle.std.proofs.Common.{refl}
use Rattle.html5states.proofs.Tellings.{emits_then, emits_stop}
use Rattle.html5states.proofs.teller.Teller.emit_ended_comment.Goals as goal

pub returns-in_err-emit_unexpected_where : goal.returns-in_err-emit_unexpected_where
returns-in_err-emit_unexpected_where g c = emits_stop _ c.from_residual.ensures.1 c.in_err-emit_unexpected_where.ensures _ refl

pub returns : goal.returns
returns g c = emits_then c.in_ok-emit_unexpected_where.ensures c.emit_comment.ensures refl
