-- Each answer gives its lemma the place at which an entry goes, and the entries before and after it.
use Rattle.std.proofs.Common.{◌≡◌, ℕ, Bool, true, if◌then◌else◌, List, Vec, String, Option, length, vec_len, sym, ap, subst, inr, ◌∙◌}
use Rattle.std.specs.List.{insert}
use Rattle.std.specs.String.{string_bytes}
use Rattle.std.proofs.lemmas.List.{length-map}
use Rattle.markup5ever.specs.NamedReferences.{NamedReference, IsTable, is_plain_name, reference_of, references_of}
use Rattle.markup5ever.specs.Place.{IsAt, IsGapFor}
use Rattle.markup5ever.proofs.NamedReferencesLemmas.{characters-at, characters-absent, in_place-at, IsAscending-insert, IsTable-insert}
use Rattle.markup5ever.proofs.Searches.{references-insert}
use Rattle.markup5ever.proofs.TableChecks.{fault-bad, fault-zero, fault-repeated, fault-none}
use Rattle.markup5ever.proofs.data.NamedReferences.add.Goals as goal

-- the place of the next entry is how many there are
place_is : {Z : Type 0} (items : Vec (String Z × ℕ × Option ℕ) Z) (entries : List NamedReference) (place : ℕ) → references_of items.items ≡ entries → place ≡ vec_len items → place ≡ length entries
place_is {Z} items entries place is at = at ∙ items.ok.0 ∙ sym (length-map items.items reference_of) ∙ ap length is

pub returns-then-not-is_plain_name-clause-fault : goal.returns-then-not-is_plain_name-clause-fault
returns-then-not-is_plain_name-clause-fault g c =
    let at : c.len-place.result ≡ length c.args.self.now = place_is c.self.inside.entries c.args.self.now c.len-place.result c.self.view_is c.len-place.ensures in
    inr (fault-bad c.args.self.now (reference_of c.args.entry) c.len-place.result at (ap is_plain_name (sym c.deref.ensures) ∙ sym c.is_plain_name.ensures ∙ c.if-not-is_plain_name.true))

pub returns-then-has_zero-clause-fault : goal.returns-then-has_zero-clause-fault
returns-then-has_zero-clause-fault g c =
    let at : c.len-place.result ≡ length c.args.self.now = place_is c.self.inside.entries c.args.self.now c.len-place.result c.self.view_is c.len-place.ensures in
    inr (fault-zero c.args.self.now (reference_of c.args.entry) c.len-place.result at (ap is_plain_name (sym c.deref.ensures) ∙ sym c.is_plain_name.ensures ∙ c.if-not-is_plain_name.false) (sym c.has_zero.ensures ∙ c.if-has_zero.true))

pub returns-in_default-clause-fault : goal.returns-in_default-clause-fault
returns-in_default-clause-fault g c =
    let at : c.len-place.result ≡ length c.args.self.now = place_is c.self.inside.entries c.args.self.now c.len-place.result c.self.view_is c.len-place.ensures in
    let there : IsAt c.args.self.now (string_bytes c.args.entry.0) c.in_default.field-0 = rw c.deref-2.ensures at c.in_default.ensures.found in
    inr (fault-repeated c.args.self.now (reference_of c.args.entry) c.len-place.result _ at (ap is_plain_name (sym c.deref.ensures) ∙ sym c.is_plain_name.ensures ∙ c.if-not-is_plain_name.false) (sym c.has_zero.ensures ∙ c.if-has_zero.false)
    (characters-at c.args.self.now (string_bytes c.args.entry.0) c.in_default.field-0 (reference_of c.args.entry) (subst IsTable c.self.view_is c.self.invariant.0) there))

-- what the items are once the entry is in its gap
grown : {X : Type 0} (new : List X) (gap : List X) (same : List X) (ok : Bool) → ok ≡ true → new ≡ (if ok then gap else same) → new ≡ gap
grown new gap same ok is e = rw is at e

pub invariant_of-self-2 : goal.invariant_of-self-2
invariant_of-self-2 g c =
    let items = c.self.inside.entries.items in
    let e = reference_of c.args.entry in
    let old : references_of items ≡ c.args.self.now = c.self.view_is in
    let gap : IsGapFor (references_of items) e.name c.in-Err.gap = rw (old, ← c.deref-2.ensures) c.in-Err.ensures.absent in
    let new : c.insert.new.self.items ≡ insert items c.in-Err.gap c.args.entry = grown _ _ _ _ c.if-is_err-2.ensures.negation c.insert.ensures.items in
    let references : references_of c.insert.new.self.items ≡ insert (references_of items) c.in-Err.gap e = ap references_of new ∙ references-insert items c.in-Err.gap c.args.entry in
    let ascending = IsAscending-insert (references_of items) e c.in-Err.gap c.self.invariant.1 gap in
    let plain : is_plain_name e.name ≡ true = ap is_plain_name (sym c.deref.ensures) ∙ sym c.is_plain_name.ensures ∙ c.if-not-is_plain_name.false in
    rw references (IsTable-insert (references_of items) e c.in-Err.gap c.self.invariant.0 ascending plain (sym c.has_zero.ensures ∙ c.if-has_zero.false), ascending)

pub returns-clause-faultless : goal.returns-clause-faultless
returns-clause-faultless g c =
    let gap : IsGapFor c.args.self.now (string_bytes c.args.entry.0) c.in-Err.gap = rw c.deref-2.ensures at c.in-Err.ensures.absent in
    fault-none c.args.self.now (reference_of c.args.entry) (ap is_plain_name (sym c.deref.ensures) ∙ sym c.is_plain_name.ensures ∙ c.if-not-is_plain_name.false) (sym c.has_zero.ensures ∙ c.if-has_zero.false) (characters-absent c.args.self.now (string_bytes c.args.entry.0) c.in-Err.gap gap)

pub returns-clause-ok : goal.returns-clause-ok
returns-clause-ok g c =
    let items = c.self.inside.entries.items in
    let e = reference_of c.args.entry in
    let gap : IsGapFor c.args.self.now e.name c.in-Err.gap = rw c.deref-2.ensures at c.in-Err.ensures.absent in
    let new : c.insert.new.self.items ≡ insert items c.in-Err.gap c.args.entry = grown _ _ _ _ c.if-is_err-2.ensures.negation c.insert.ensures.items in
    ap references_of new ∙ references-insert items c.in-Err.gap c.args.entry ∙ ap (λ es. insert es c.in-Err.gap e) c.self.view_is ∙ sym (in_place-at c.args.self.now e c.in-Err.gap gap)
