-- The loop keeps the entries that were taken and those that are left. Each answer gives its lemma both lists.
use Rattle.std.proofs.Common.{◌≡◌, [], ◌∷◌, ◌++◌, length, refl, sym, ap, inl, inr, ◌∙◌, append_assoc, append-nil, arith, rules}
use Rattle.std.specs.Vec.Iter.{into_iter_items}
use Rattle.std.proofs.lemmas.List.{map-append, nil_from_length}
use Rattle.std.proofs.lemmas.Result.{err_from_is_err_and}
use Rattle.markup5ever.specs.NamedReferences.{begins_name, characters_of_name, references_of, reference_of, first_fault, first_fault_after}
use Rattle.markup5ever.proofs.NamedReferencesLemmas.{IsTable-none, IsAscending-none}
use Rattle.markup5ever.proofs.TableChecks.{IsTableOf-none, IsTableOf-more, faultless-more, fault-first, faultless-end}
use Rattle.markup5ever.proofs.data.NamedReferences.check.Goals as goal

pub invariant_of-table : goal.invariant_of-table
invariant_of-table g c = rw c.in_ok-with_capacity.ensures.items (IsTable-none, IsAscending-none)

pub loop-entry-preserved : goal.loop-entry-preserved
loop-entry-preserved g c =
    let at = c.loop-entry in
    let entry = c.in-Some.entry in
    let steps : into_iter_items at.entry-iterator ≡ entry ∷ into_iter_items c.next.new.self = c.in-Some.ensures.steps.0 in
    let done : references_of (at.yielded ++ entry ∷ []) ≡ references_of at.yielded ++ reference_of entry ∷ [] = map-append reference_of at.yielded (entry ∷ []) in
    let none = c.in_ok-add.ensures.faultless in
    record {
      all = append_assoc at.yielded (entry ∷ []) _ ∙ rw (← steps) at.invariant.all;
      left =
          let was = at.invariant.left in
          let gone = c.in-Some.ensures.steps.1 in
          let short = ap length steps in
          omega arith;
      table = rw done (IsTableOf-more at.table c.add.new.self (references_of at.yielded) (reference_of entry) at.invariant.table none c.in_ok-add.ensures.ok);
      faultless = rw done (faultless-more at.table (references_of at.yielded) (references_of (into_iter_items c.next.new.self)) (reference_of entry) at.invariant.table none) ∙ rw steps at at.invariant.faultless;
    }

pub returns-in_err-add-clause-fault : goal.returns-in_err-add-clause-fault
returns-in_err-add-clause-fault g c =
    let at = c.loop-entry in
    let entry = c.in-Some.entry in
    let rest = into_iter_items c.next.new.self in
    let steps : into_iter_items at.entry-iterator ≡ entry ∷ rest = c.in-Some.ensures.steps.0 in
    let whole : first_fault_after (references_of at.yielded) (reference_of entry ∷ references_of rest) ≡ first_fault (references_of c.args.entries.items) =
    rw steps at at.invariant.faultless ∙ ap (λ es. first_fault (references_of es)) c.into_iter-entry-iterator.ensures.into_iter_gives.0 in
    let p = err_from_is_err_and c.from_residual-in_err-add.result c.from_residual-in_err-add.ensures.1 in
    rw (p.1, p.2) (elim c.in_err-add.ensures.fault [
      | inl memory ↦ inl memory
      | inr fault ↦ inr (sym whole ∙ fault-first at.table (references_of at.yielded) (references_of rest) (reference_of entry) _ at.invariant.table fault)
    ])

-- at the end all entries were looked at
pub returns-clause-faultless : goal.returns-clause-faultless
returns-clause-faultless g c =
    let at = c.loop-entry in
    let left : into_iter_items at.entry-iterator ≡ [] = nil_from_length (into_iter_items at.entry-iterator) (sym at.invariant.left ∙ c.in-None.ensures.steps.0) in
    sym (ap (λ es. first_fault (references_of es)) c.into_iter-entry-iterator.ensures.into_iter_gives.0) ∙ sym at.invariant.faultless ∙ rw left (faultless-end (references_of at.yielded))

pub returns-clause-characters : goal.returns-clause-characters
returns-clause-characters g c name =
    let at = c.loop-entry in
    let left : into_iter_items at.entry-iterator ≡ [] = nil_from_length (into_iter_items at.entry-iterator) (sym at.invariant.left ∙ c.in-None.ensures.steps.0) in
    let all : at.yielded ≡ c.args.entries.items = sym (append-nil at.yielded) ∙ rw left at at.invariant.all ∙ c.into_iter-entry-iterator.ensures.into_iter_gives.0 in
    rw c.fill_slots.ensures (at.invariant.table.same_characters name) ∙ ap (λ es. characters_of_name (references_of es) name) all

pub returns-clause-beginnings : goal.returns-clause-beginnings
returns-clause-beginnings g c text =
    let at = c.loop-entry in
    let left : into_iter_items at.entry-iterator ≡ [] = nil_from_length (into_iter_items at.entry-iterator) (sym at.invariant.left ∙ c.in-None.ensures.steps.0) in
    let all : at.yielded ≡ c.args.entries.items = sym (append-nil at.yielded) ∙ rw left at at.invariant.all ∙ c.into_iter-entry-iterator.ensures.into_iter_gives.0 in
    rw c.fill_slots.ensures (at.invariant.table.same_beginnings text) ∙ ap (λ es. begins_name (references_of es) text) all

pub loop-entry-init : goal.loop-entry-init
loop-entry-init g c =
    let none : references_of c.in_ok-with_capacity.field-0.items ≡ [] = ap references_of c.in_ok-with_capacity.ensures.items in
    record { all = refl; left = search rules; table = IsTableOf-none _ none; faultless = refl }
