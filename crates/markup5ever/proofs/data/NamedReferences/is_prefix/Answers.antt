use Rattle.std.proofs.Common.{◌≡◌, string_bytes, refl, sym, ◌∙◌}
use Rattle.std.specs.Bool.{nat_eq}
use Rattle.std.specs.List.{starts_with}
use Rattle.markup5ever.proofs.Searches.{begins-found_at, begins-item, begins-past_end}
use Rattle.markup5ever.proofs.data.NamedReferences.is_prefix.Goals as goal

pub returns-in-Ok-clause-begins : goal.returns-in-Ok-clause-begins
returns-in-Ok-clause-begins g c =
    let items = c.self.inside.entries.items in
    sym (begins-found_at items c.args.self.now c.args.text.now c.in-Ok.field-0 c.self.view_is c.self.invariant.0 c.in-Ok.ensures.found)

pub returns-in-Some-clause-begins : goal.returns-in-Some-clause-begins
returns-in-Some-clause-begins g c =
    let items = c.self.inside.entries.items in
    let there = rw c.deref.ensures.value at c.in-Some.ensures.lookup in
    let begins : c.starts_with.result ≡ starts_with nat_eq (string_bytes c.in-Some.entry.now.0) c.args.text.now = c.starts_with.ensures.value ∙ rw (c.as_bytes.ensures.value, c.as_bytes-in-Some.ensures.value) refl in
    begins ∙ sym (begins-item items c.args.self.now c.args.text.now c.in-Err.gap c.in-Some.entry.now c.self.view_is c.self.invariant.1 c.in-Err.ensures.absent there.3.0 there.1)

pub returns-in-None-clause-begins : goal.returns-in-None-clause-begins
returns-in-None-clause-begins g c =
    let items = c.self.inside.entries.items in
    let there = rw c.deref.ensures.value at c.in-None.ensures.lookup in
    sym (begins-past_end items c.args.self.now c.args.text.now c.in-Err.gap c.self.view_is c.self.invariant.1 c.in-Err.ensures.absent there.3)
