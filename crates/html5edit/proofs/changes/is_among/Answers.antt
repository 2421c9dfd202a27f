use Rattle.std.proofs.Common.{sym, ap, ◌∙◌}
use Rattle.std.specs.Str.{bytes_eq}
use Rattle.html5edit.proofs.Names.{among-here}
use Rattle.html5edit.proofs.changes.is_among.Goals as goal

pub returns-then-eq : goal.returns-then-eq
returns-then-eq c =
    sym (c.loop-other.invariant
    ∙ among-here c.args.name.now c.args.names.now c.loop-other.other-index c.other-item.result c.loop-other-test.true c.other-item.is
    (ap (λ l. bytes_eq l c.args.name.now) (sym c.as_str.ensures.value) ∙ sym c.eq.ensures ∙ c.if-eq.true))
