use Rattle.std.proofs.Common.{rules}
use Rattle.std.specs.Cmp.Lexicographic.{slice_cmp}
use Rattle.std.specs.Ordering.{nat_cmp}
use Rattle.std.specs.String.{string_bytes}
use Rattle.std.proofs.lemmas.Fn.{always_returns_same}
use Rattle.markup5ever.proofs.Searches.{searched}
use Rattle.markup5ever.proofs.data.NamedReferences.search_in_order.Goals as goal

pub returns-in-None : goal.returns-in-None
returns-in-None g c =
    let facts = c.binary_search_by.ensures in
    let by_name = facts.position (λ item. slice_cmp nat_cmp (string_bytes item.0) c.args.name.now) (always_returns_same _ _ _ (λ a r next called. search rules)) in
    rw (← c.self.view_is, ← c.deref.ensures.value) (searched c.args.name.now _ c.binary_search_by.result (rw c.deref.ensures.value c.self.invariant.1) facts.bound by_name)
