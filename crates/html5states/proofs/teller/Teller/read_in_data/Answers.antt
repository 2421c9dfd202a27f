use Rattle.std.proofs.Common.{[], refl}
use Rattle.html5reading.specs.Machine.{data_step}
use Rattle.html5reading.proofs.Steps.{data_step-before}
use Rattle.html5states.proofs.Tellings.{reads_then, reads_stop}
use Rattle.html5states.proofs.teller.Teller.read_in_data.Goals as goal

pub returns-in_err-emit_unexpected_then : goal.returns-in_err-emit_unexpected_then
unfolding lib.Utf8.encode
returns-in_err-emit_unexpected_then g c =
    reads_stop _ c.from_residual.ensures.1 c.in_err-emit_unexpected_then.ensures (data_step c.args.self.now.exact_errors [] c.args.c) (data_step-before _ _ _) refl

pub returns : goal.returns
unfolding lib.Utf8.encode Rattle.html5reading.specs.Machine.step_at
returns g c = reads_then c.in_ok-emit_unexpected_then.ensures c.data_state.ensures (rw c.in_ok-emit_unexpected_then.ensures.kept.exact_errors (data_step-before _ _ _)) refl
