use Rattle.std.proofs.Common.{[], refl}
use Rattle.html5reading.specs.Start.{raw_of}
use Rattle.html5reading.specs.Machine.{raw_step}
use Rattle.html5reading.proofs.Steps.{raw_step-before}
use Rattle.html5partial.specs.CurrentTag.{last_name_of}
use Rattle.html5states.proofs.Tellings.{reads_then, reads_stop}
use Rattle.html5states.proofs.teller.Teller.read_after_less_than.Goals as goal

pub returns-in_err-emit_after_less_than : goal.returns-in_err-emit_after_less_than
returns-in_err-emit_after_less_than g c =
    reads_stop _ c.from_residual.ensures.1 c.in_err-emit_after_less_than.ensures
    (raw_step c.args.self.now.exact_errors (raw_of c.args.kind) (last_name_of c.args.at.now) [] c.args.c) (raw_step-before _ _ _ _ _) refl

pub returns : goal.returns
returns g c =
    reads_then c.in_ok-emit_after_less_than.ensures c.read_raw_data.ensures (rw c.in_ok-emit_after_less_than.ensures.kept.exact_errors (raw_step-before _ _ _ _ _)) refl
