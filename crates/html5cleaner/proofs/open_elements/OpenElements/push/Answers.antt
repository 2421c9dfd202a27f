use Rattle.std.proofs.Common.{◌∷◌, ap, sym, ◌∙◌}
use Rattle.std.specs.Str.{chars}
use Rattle.html5cleaner.specs.Counts.{count_of, occurrences}
use Rattle.html5cleaner.specs.Open.{names_of}
use Rattle.html5cleaner.proofs.CountLemmas.{pushed-count}
use Rattle.html5cleaner.proofs.NameLemmas.{names-push}
use Rattle.html5cleaner.proofs.open_elements.OpenElements.push.Goals as goal

pub invariant_of-self-in-Ok : goal.invariant_of-self-in-Ok
invariant_of-self-in-Ok g c = λ other.
    let names = ap names_of c.in-Ok.ensures.items ∙ names-push c.self.inside.names.items c.in_ok-owned.owned in
    pushed-count (chars c.args.name.now) (names_of c.self.inside.names.items) other (count_of c.self.inside.counts.items other) (count_of c.raise.new.counts.items other)
    (c.self.invariant other) (c.in_ok-raise.ensures.ok other)
    ∙ sym (ap (λ opened. occurrences opened other) (names ∙ ap (λ text. chars text ∷ names_of c.self.inside.names.items) c.in_ok-owned.ensures.ok))
