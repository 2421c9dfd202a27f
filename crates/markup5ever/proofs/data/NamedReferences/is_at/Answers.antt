use Rattle.std.proofs.Common.{◌≡◌, string_bytes, sym, ap, ◌∙◌}
use Rattle.std.proofs.lemmas.List.{get_or_default}
use Rattle.markup5ever.proofs.Searches.{stands}
use Rattle.markup5ever.proofs.data.NamedReferences.is_at.Goals as goal

pub returns-in-Some : goal.returns-in-Some
returns-in-Some g c = λ yes.
    let items = c.self.inside.entries.items in
    let entry = c.in-Some.entry.now in
    let there = rw c.deref.ensures.value at c.in-Some.ensures.lookup in
    let same : string_bytes entry.0 ≡ c.args.name.now = sym c.as_bytes.ensures.value ∙ c.is_same.ensures yes ∙ c.as_bytes-in-Some.ensures.value in
    rw (← c.self.view_is) (stands c.args.name.now items c.args.place there.3.0
    (λ d. ap (λ item. string_bytes item.0) (get_or_default items c.args.place d entry there.3.0 ∙ sym there.1) ∙ same))
