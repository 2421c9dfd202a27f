use Rattle.std.proofs.Common.{ap, sym, ◌∙◌}
use Rattle.std.specs.Str.{chars}
use Rattle.std.specs.Prelude.{◌==◌}
use Rattle.html5cleaner.specs.Counts.{count_of}
use Rattle.html5cleaner.specs.Open.{closed_by, names_of, reach}
use Rattle.html5cleaner.proofs.CountLemmas.{closes-none, closes-some, not-zero}
use Rattle.html5cleaner.proofs.open_elements.OpenElements.closed_by.Goals as goal

pub returns-then-count_of-eq0 : goal.returns-then-count_of-eq0
returns-then-count_of-eq0 g c =
    let name = chars c.args.name.now in
    let counted = c.count_of.ensures ∙ ap (λ counts. count_of counts name) c.deref.ensures.value ∙ c.self.invariant name in
    sym (ap (λ opened. closed_by opened name) (sym c.self.view_is) ∙ closes-none (names_of c.self.inside.names.items) name (sym counted ∙ c.if-count_of-eq0.true))

pub returns : goal.returns
returns g c =
    let name = chars c.args.name.now in
    let counted = c.count_of.ensures ∙ ap (λ counts. count_of counts name) c.deref.ensures.value ∙ c.self.invariant name in
    c.reach.ensures ∙ ap (λ names. reach (names_of names) name) c.deref-2.ensures.value
    ∙ sym (closes-some (names_of c.self.inside.names.items) name (ap (λ n. n == 0) (sym counted) ∙ not-zero c.count_of.result c.if-count_of-eq0.false))
    ∙ ap (λ opened. closed_by opened name) c.self.view_is
