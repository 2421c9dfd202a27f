use Rattle.std.proofs.Common.{[], ◌∷◌, refl, ap, sym, ◌∙◌}
use Rattle.std.specs.Str.{chars}
use Rattle.html5reading.specs.Characters.{less_than, solidus}
use Rattle.html5reading.specs.RawText.{texts}
use Rattle.html5reading.specs.Start.{raw_of}
use Rattle.html5reading.specs.Machine.{raw_step}
use Rattle.html5reading.proofs.Steps.{raw_step-before}
use Rattle.html5partial.specs.CurrentTag.{last_name_of}
use Rattle.html5states.proofs.Tellings.{reads_then, reads_stop}
use Rattle.html5states.proofs.teller.Teller.read_after_end_name.Goals as goal

pub returns-in_err-emit_end_name : goal.returns-in_err-emit_end_name
returns-in_err-emit_end_name g c =
    reads_stop _ c.from_residual.ensures.1 c.in_err-emit_end_name.ensures
    (raw_step c.args.self.now.exact_errors (raw_of c.args.kind) (last_name_of c.args.at.now) [] c.args.c)
    (ap (λ bytes. raw_step c.args.self.now.exact_errors (raw_of c.args.kind) (last_name_of c.args.at.now) (texts (less_than ∷ solidus ∷ chars bytes)) c.args.c) (sym c.deref.ensures)
    ∙ raw_step-before _ _ _ _ _) refl

pub returns : goal.returns
returns g c =
    reads_then c.in_ok-emit_end_name.ensures c.read_raw_data.ensures
    (ap (λ bytes. raw_step c.args.self.now.exact_errors (raw_of c.args.kind) (last_name_of c.args.at.now) (texts (less_than ∷ solidus ∷ chars bytes)) c.args.c) (sym c.deref.ensures)
    ∙ rw c.in_ok-emit_end_name.ensures.kept.exact_errors (raw_step-before _ _ _ _ _)) refl
