use Rattle.std.proofs.Common.{[], refl, false}
use Rattle.html5reading.specs.Machine.{closing_step}
use Rattle.html5partial.specs.CurrentTag.{open_tag}
use Rattle.html5states.proofs.Tellings.{reads_then, reads_stop}
use Rattle.html5states.proofs.teller.Teller.end_without_value.Goals as goal

pub returns-in_err-emit_unexpected : goal.returns-in_err-emit_unexpected
unfolding Rattle.html5reading.specs.Machine.closing_step
returns-in_err-emit_unexpected g c = reads_stop _ c.from_residual.ensures.1 c.in_err-emit_unexpected.ensures (closing_step [] (open_tag c.args.at.now.tag) false) refl refl

pub returns : goal.returns
unfolding Rattle.html5reading.specs.Machine.closing_step
returns g c = reads_then {later = closing_step [] (open_tag c.args.at.now.tag) false} c.in_ok-emit_unexpected.ensures c.end_tag.ensures refl refl
