use Rattle.std.proofs.Common.{refl, ap, sym, ◌∙◌, arith}
use Rattle.std.specs.List.{position}
use Rattle.std.specs.Str.{chars}
use Rattle.html5cleaner.specs.Counts.{is_entry_of}
use Rattle.html5cleaner.proofs.CountLemmas.{count-here, count-lowered, count-none}
use Rattle.html5cleaner.proofs.counts.lower.Goals as goal

pub returns-in_default : goal.returns-in_default
returns-in_default g c =
    let none = count-none (chars c.args.name.now) c.args.counts.now.items
    (ap (position (is_entry_of (chars c.args.name.now))) (sym c.deref.ensures.value) ∙ sym c.place_of.ensures ∙ c.in_default.is) in
    absurd (omega (arith, none, c.requires))

pub returns-in-Some-get_mut : goal.returns-in-Some-get_mut
returns-in-Some-get_mut g c = λ other.
    let entry = c.in-Some-get_mut.entry.now in
    let place = ap (position (is_entry_of (chars c.args.name.now))) (sym c.deref.ensures.value) ∙ sym c.place_of.ensures ∙ c.in-Some.is in
    let here = count-here (chars c.args.name.now) c.args.counts.now.items c.in-Some.place entry place c.in-Some-get_mut.ensures.value in
    count-lowered (chars c.args.name.now) other c.args.counts.now.items c.in-Some.place entry (record { name = entry.name; count = c.saturating_sub-entry.result })
    place c.in-Some-get_mut.ensures.value refl (omega (arith, here, c.requires, c.saturating_sub-entry.ensures))
