use Rattle.std.proofs.Common.{[], ◌∷◌, ap, sym}
use Rattle.html5ever_interface.specs.Token.{DoctypeOf}
use Rattle.html5ever_interface.specs.Token.Told.{Doctype, End}
use Rattle.html5states.proofs.Tellings.{emits_then, emits_stop}
use Rattle.html5states.proofs.teller.Teller.end_after_doctype.Goals as goal

pub returns-in_err-emit : goal.returns-in_err-emit
returns-in_err-emit g c =
    emits_stop _ c.from_residual-in_err-emit.ensures.1 c.in_err-emit.ensures (End ∷ [])
    (ap (λ (d : DoctypeOf). Doctype (record d { force_quirks = c.args.force_quirks }) ∷ End ∷ []) (sym c.in_ok-doctype.ensures))

pub returns : goal.returns
returns g c =
    emits_then c.in_ok-emit.ensures c.emit-2.ensures
    (ap (λ (d : DoctypeOf). Doctype (record d { force_quirks = c.args.force_quirks }) ∷ End ∷ []) (sym c.in_ok-doctype.ensures))
