use Rattle.std.proofs.Common.{refl, ap, sym, ◌∙◌}
use Rattle.std.specs.List.{position}
use Rattle.std.specs.Str.{chars}
use Rattle.html5cleaner.specs.Counts.{count_of, is_entry_of}
use Rattle.html5cleaner.proofs.CountLemmas.{count-new, count-raised}
use Rattle.html5cleaner.proofs.counts.raise.Goals as goal

pub returns-in_default-clause-ok : goal.returns-in_default-clause-ok
returns-in_default-clause-ok g c = λ other.
    let none = ap (position (is_entry_of (chars c.args.name.now))) (sym c.deref.ensures.value) ∙ sym c.place_of.ensures ∙ c.in_default.is in
    ap (λ counts. count_of counts other) c.in_ok-push.ensures.items
    ∙ count-new (chars c.args.name.now) other c.args.counts.now.items (record { name = c.in_ok-name.name; count = 1 }) none (ap chars c.in_ok-name.ensures.ok) refl

pub returns-in-Some-checked_add-clause-ok : goal.returns-in-Some-checked_add-clause-ok
returns-in-Some-checked_add-clause-ok g c = λ other.
    let entry = c.in-Some-get_mut.entry.now in
    let place = ap (position (is_entry_of (chars c.args.name.now))) (sym c.deref.ensures.value) ∙ sym c.place_of.ensures ∙ c.in-Some.is in
    count-raised (chars c.args.name.now) other c.args.counts.now.items c.in-Some.place entry (record { name = entry.name; count = c.in-Some-checked_add.count })
    place c.in-Some-get_mut.ensures.value refl c.in-Some-checked_add.ensures.1
