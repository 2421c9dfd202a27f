use Rattle.std.proofs.Common.{[], refl}
use Rattle.html5reading.specs.Machine.{bogus_comment_step}
use Rattle.html5reading.proofs.Steps.{bogus_comment_step-before}
use Rattle.html5states.proofs.Tellings.{reads_then, reads_stop}
use Rattle.html5states.proofs.teller.Teller.create_bogus_comment.Goals as goal

pub returns-in_err-emit_unexpected : goal.returns-in_err-emit_unexpected
returns-in_err-emit_unexpected g c =
    reads_stop _ c.from_residual.ensures.1 c.in_err-emit_unexpected.ensures (bogus_comment_step c.args.self.now.exact_errors [] [] c.args.c) (bogus_comment_step-before _ _ _ _) refl

pub returns : goal.returns
returns g c =
    reads_then c.in_ok-emit_unexpected.ensures c.bogus_comment_state.ensures
    (rw (c.in_ok-emit_unexpected.ensures.kept.exact_errors, c.clear.ensures.bytes) (bogus_comment_step-before _ _ _ _)) refl
