use Rattle.std.proofs.Common.{refl}
use Rattle.html5reading.specs.Tag.{self_closing_error}
use Rattle.html5states.proofs.Tellings.{emits_then, emits_stop}
use Rattle.html5states.proofs.teller.Teller.emit_end_tag_errors.Goals as goal

pub returns-in_err-emit_message_where : goal.returns-in_err-emit_message_where
unfolding Rattle.html5reading.specs.Tag.end_tag_errors
returns-in_err-emit_message_where g c =
    emits_stop _ c.from_residual.ensures.1 (rw c.has_wrong_attributes-attributes.ensures at c.in_err-emit_message_where.ensures) _ refl

pub returns : goal.returns
unfolding Rattle.html5reading.specs.Tag.end_tag_errors
returns g c =
    emits_then (rw c.has_wrong_attributes-attributes.ensures at c.in_ok-emit_message_where.ensures)
    (rw c.has_wrong_solidus-solidus.ensures at c.emit_message_where-2.ensures) refl
