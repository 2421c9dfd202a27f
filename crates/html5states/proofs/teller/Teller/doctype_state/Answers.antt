use Rattle.std.proofs.Common.{refl, sym, ◌∙◌}
use Rattle.html5reading.specs.Machine.{doctype_step, space_step}
use Rattle.html5reading.proofs.Steps.{wanted_name_step-before}
use Rattle.html5states.proofs.Tellings.{reads_then}
use Rattle.html5states.proofs.teller.Teller.doctype_state.Goals as goal

pub returns : goal.returns
unfolding doctype_step space_step
returns g c =
    reads_then c.in_ok-emit_unexpected_where.ensures c.begin_doctype_name.ensures
    (rw (c.in_ok-emit_unexpected_where.ensures.kept.exact_errors, sym c.is_white_space.ensures ∙ c.if-is_white_space.false) (wanted_name_step-before _ _ _ _)) refl
