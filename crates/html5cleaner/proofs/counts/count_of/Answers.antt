use Rattle.std.proofs.Common.{sym, ap, ◌∙◌}
use Rattle.std.specs.Str.{chars}
use Rattle.html5cleaner.proofs.CountLemmas.{count-here, count-none}
use Rattle.html5cleaner.proofs.counts.count_of.Goals as goal

pub returns-in-Some : goal.returns-in-Some
returns-in-Some g c =
    sym (count-here (chars c.args.name.now) c.args.counts.now c.in-Some.place c.index-counts-place.result (sym c.place_of.ensures ∙ c.in-Some.is) c.index-counts-place.is
    ∙ ap (λ entry. entry.count) c.index-counts-place.is)

pub returns-in-None : goal.returns-in-None
returns-in-None g c = sym (count-none (chars c.args.name.now) c.args.counts.now (sym c.place_of.ensures ∙ c.in-None.is))
