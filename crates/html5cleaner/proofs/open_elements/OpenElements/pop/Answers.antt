use Rattle.std.proofs.Common.{◌+◌, ◌<◌, ◌∷◌, ap, sym, ◌∙◌, subst}
use Rattle.std.specs.Str.{chars}
use Rattle.html5cleaner.specs.Counts.{count_of, occurrences, one_where}
use Rattle.html5cleaner.specs.Open.{name_of, names_of}
use Rattle.html5cleaner.proofs.CountLemmas.{innermost-counted, popped-count}
use Rattle.html5cleaner.proofs.NameLemmas.{names-push}
use Rattle.html5cleaner.proofs.open_elements.OpenElements.pop.Goals as goal

pub lower-requires : goal.lower-requires
lower-requires g c =
    let names = ap names_of c.in-Some.ensures.items ∙ names-push c.pop.new.self.items c.in-Some.name in
    let counted = c.self.invariant (chars c.as_str.result.now) ∙ ap (λ opened. occurrences opened (chars c.as_str.result.now)) names
    ∙ ap (λ text. occurrences (name_of c.in-Some.name ∷ names_of c.pop.new.self.items) (chars text)) c.as_str.ensures.value in
    subst (λ n. 0 < n) (sym counted) (innermost-counted (name_of c.in-Some.name) (names_of c.pop.new.self.items))

pub invariant_of-self : goal.invariant_of-self
invariant_of-self g c = λ other.
    let names = ap names_of c.in-Some.ensures.items ∙ names-push c.pop.new.self.items c.in-Some.name in
    popped-count (name_of c.in-Some.name) (names_of c.pop.new.self.items) other (count_of c.self.inside.counts.items other) (count_of c.lower.new.counts.items other)
    (c.self.invariant other ∙ ap (λ opened. occurrences opened other) names)
    (c.lower.ensures other ∙ ap (λ text. one_where (chars text) other + count_of c.lower.new.counts.items other) c.as_str.ensures.value)
