use Rattle.std.proofs.Common.{[], refl}
use Rattle.html5ever_interface.specs.Token.{doctype_of}
use Rattle.html5reading.specs.Machine.{skipped_step}
use Rattle.html5reading.proofs.Steps.{skipped_step-before}
use Rattle.html5states.proofs.Tellings.{reads_then, reads_stop}
use Rattle.html5states.proofs.teller.Teller.skip_doctype.Goals as goal

pub returns-in_err-emit_unexpected : goal.returns-in_err-emit_unexpected
returns-in_err-emit_unexpected g c =
    reads_stop _ c.from_residual.ensures.1 c.in_err-emit_unexpected.ensures (skipped_step c.args.self.now.exact_errors [] (doctype_of c.args.at.now.doctype) c.args.c) (skipped_step-before _ _ _ _) refl

pub returns : goal.returns
returns g c =
    reads_then c.in_ok-emit_unexpected.ensures c.bogus_doctype_state.ensures (rw c.in_ok-emit_unexpected.ensures.kept.exact_errors (skipped_step-before _ _ _ _)) refl
