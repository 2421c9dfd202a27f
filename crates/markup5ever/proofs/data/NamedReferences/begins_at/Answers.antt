use Rattle.std.proofs.Common.{◌≡◌, string_bytes, true, sym, ap, ◌∙◌}
use Rattle.std.specs.Bool.{nat_eq}
use Rattle.std.specs.List.{starts_with}
use Rattle.std.proofs.lemmas.List.{get_or_default}
use Rattle.markup5ever.proofs.Searches.{begins-somewhere}
use Rattle.markup5ever.proofs.data.NamedReferences.begins_at.Goals as goal

pub returns-in-Some : goal.returns-in-Some
returns-in-Some g c = λ yes.
    let items = c.self.inside.entries.items in
    let entry = c.in-Some.entry.now in
    let there = rw c.deref.ensures.value at c.in-Some.ensures.lookup in
    let begins : starts_with nat_eq (string_bytes entry.0) c.args.text.now ≡ true = rw (c.as_bytes.ensures.value, c.as_bytes-in-Some.ensures.value) at c.begins_with.ensures yes in
    rw (← c.self.view_is) (begins-somewhere c.args.text.now items c.args.place there.3.0
    (λ d. ap (λ item. starts_with nat_eq (string_bytes item.0) c.args.text.now) (get_or_default items c.args.place d entry there.3.0 ∙ sym there.1) ∙ begins))
