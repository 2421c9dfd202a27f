use Rattle.std.proofs.Common.{false, refl}
use Rattle.html5ever_interface.specs.Token.{doctype_of}
use Rattle.html5reading.specs.Machine.{wanted_identifier_step}
use Rattle.html5reading.proofs.Steps.{wanted_identifier_step-direct}
use Rattle.html5states.proofs.Tellings.{reads_then, reads_stop}
use Rattle.html5states.proofs.teller.Teller.begin_at_once.Goals as goal

pub returns-in_err-emit_unexpected_where : goal.returns-in_err-emit_unexpected_where
returns-in_err-emit_unexpected_where g c =
    reads_stop _ c.from_residual.ensures.1 c.in_err-emit_unexpected_where.ensures
    (wanted_identifier_step c.args.self.now.exact_errors false c.args.expected c.args.kind (doctype_of c.args.at.now.doctype) c.args.c)
    (rw c.is_quote.ensures (wanted_identifier_step-direct _ _ _ _ _)) refl

pub returns : goal.returns
returns g c =
    reads_then c.in_ok-emit_unexpected_where.ensures c.begin_or_skip.ensures
    (rw (c.in_ok-emit_unexpected_where.ensures.kept.exact_errors, c.is_quote.ensures) (wanted_identifier_step-direct _ _ _ _ _)) refl
