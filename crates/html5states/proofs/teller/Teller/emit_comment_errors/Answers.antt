use Rattle.std.proofs.Common.{refl}
use Rattle.html5reading.specs.Comment.{comment_errors, mark_error}
use Rattle.html5states.proofs.Tellings.{emits_then, emits_stop}
use Rattle.html5states.proofs.teller.Teller.emit_comment_errors.Goals as goal

pub returns-in_err-emit_unexpected_where : goal.returns-in_err-emit_unexpected_where
unfolding comment_errors mark_error
returns-in_err-emit_unexpected_where g c =
    emits_stop _ c.from_residual.ensures.1 (rw c.is_after_mark-mark.ensures at c.in_err-emit_unexpected_where.ensures) _ refl

pub returns : goal.returns
unfolding comment_errors mark_error
returns g c =
    emits_then (rw c.is_after_mark-mark.ensures at c.in_ok-emit_unexpected_where.ensures)
    (rw c.state_in_comment-state.ensures at c.emit_unexpected_where-2.ensures)
    (rw c.in_ok-emit_unexpected_where.ensures.kept.exact_errors refl)
