use Rattle.std.proofs.Common.{Ok, string_bytes, refl, sym, ap, ◌∙◌}
use Rattle.std.specs.Cmp.Lexicographic.{slice_cmp}
use Rattle.std.specs.Ordering.{nat_cmp}
use Rattle.std.proofs.lemmas.List.{get_or_default}
use Rattle.markup5ever.proofs.Searches.{all_after, searched}
use Rattle.markup5ever.proofs.data.NamedReferences.found_at.Goals as goal

pub returns-in-Equal-clause-found : goal.returns-in-Equal-clause-found
returns-in-Equal-clause-found g c =
    let items = c.self.inside.entries.items in
    let entry = c.in-Some.entry.now in
    let there = rw c.deref.ensures.value at c.in-Some.ensures.lookup in
    rw (← c.self.view_is) ((searched c.args.name.now items (Ok c.args.place) c.self.invariant.1 there.3.0
    (λ d. ap (λ item. slice_cmp nat_cmp (string_bytes item.0) c.args.name.now) (get_or_default items c.args.place d entry there.3.0 ∙ sym there.1) ∙ sym c.order_of.ensures ∙ c.in-Equal.is)).found)

pub returns-in-Greater-clause-absent : goal.returns-in-Greater-clause-absent
returns-in-Greater-clause-absent g c =
    let items = c.self.inside.entries.items in
    let entry = c.in-Some.entry.now in
    let there = rw c.deref.ensures.value at c.in-Some.ensures.lookup in
    record {
      within = c.if-not-is_past.ensures.within refl;
      before = c.if-not-is_past.ensures.before refl;
      afterwards = rw (← c.self.view_is) (all_after c.args.name.now items c.args.place c.self.invariant.1
          (λ d. ap (λ item. slice_cmp nat_cmp (string_bytes item.0) c.args.name.now) (get_or_default items c.args.place d entry there.3.0 ∙ sym there.1) ∙ sym c.order_of.ensures ∙ c.in-Greater.is));
    }
