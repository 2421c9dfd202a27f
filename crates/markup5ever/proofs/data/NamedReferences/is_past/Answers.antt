use Rattle.std.proofs.Common.{◌≡◌, ◌+◌, string_bytes, sym, ap, ◌∙◌, arith}
use Rattle.std.specs.Cmp.Lexicographic.{slice_cmp}
use Rattle.std.specs.Ordering.{nat_cmp}
use Rattle.std.specs.declared.cmp.Ordering.TheVariants.{Less}
use Rattle.std.proofs.lemmas.List.{get_or_default}
use Rattle.markup5ever.proofs.NameOrder.{less_from_test}
use Rattle.markup5ever.proofs.Searches.{all_before}
use Rattle.markup5ever.proofs.data.NamedReferences.is_past.Goals as goal

pub returns-clause-before : goal.returns-clause-before
returns-clause-before g c = λ yes.
    let items = c.self.inside.entries.items in
    let entry = c.in-Some-get.entry.now in
    let there = rw c.deref.ensures.value at c.in-Some-get.ensures.lookup in
    let less : slice_cmp nat_cmp (string_bytes entry.0) c.args.name.now ≡ Less = sym c.order_of.ensures ∙ less_from_test _ (sym c.is_lt.ensures ∙ yes) in
    let place : c.in-Some.last + 1 ≡ c.args.place = omega (arith, c.in-Some.ensures) in
    rw (← c.self.view_is, ← place) (all_before c.args.name.now items c.in-Some.last c.self.invariant.1 there.3.0
    (λ d. ap (λ item. slice_cmp nat_cmp (string_bytes item.0) c.args.name.now) (get_or_default items c.in-Some.last d entry there.3.0 ∙ sym there.1) ∙ less))
