use Rattle.std.proofs.Common.{◌≡◌, ◌≤◌, ℕ, Some, length, sym, ap, ◌∙◌, subst}
use Rattle.std.specs.Prelude.{nat_lt}
use Rattle.std.proofs.lemmas.Result.{IfOk-weaker}
use Rattle.html5reading.specs.Reference.{number_reference, named_reference, longest_name, ends_number}
use Rattle.html5partial.specs.CharRef.{IsFound}
use Rattle.html5partial.specs.declared.char_ref.Found.{Found}
use Rattle.html5states.proofs.Late.{decided-number, decided-name, ends-number, ends-name}
use Rattle.html5states.proofs.teller.Teller.resolve.Goals as goal

pub returns-in-Some : goal.returns-in-Some
returns-in-Some g c =
    let exact = c.args.self.now.exact_errors in
    let held = c.args.held.now in
    let number = c.in-Some.number.now in
    let next = c.args.next in
    let same = decided-number exact c.args.references.now c.args.in_value held number next c.in-Some.ensures.0 in
    record {
      emits = rw same c.resolve_number.ensures.emits;
      found = rw same c.resolve_number.ensures.found;
      ends =
          IfOk-weaker c.resolve_number.result (λ (found : Found). IsFound found (number_reference exact number next)) (λ (found : Found). (d : ℕ) → next ≡ Some d → nat_lt (length held) found.taken ≡ ends_number held d)
          (λ (found : Found) ok d e. ends-number exact held number d found c.in-Some.ensures.0 (subst (λ n. IsFound found (number_reference exact number n)) e ok)) c.resolve_number.ensures.found;
    }

pub returns-in-None : goal.returns-in-None
returns-in-None g c =
    let exact = c.args.self.now.exact_errors in
    let references = c.args.references.now in
    let in_value = c.args.in_value in
    let held = c.args.held.now in
    let text = c.text.result.now in
    let next = c.args.next in
    let same =
    decided-name exact references in_value held next c.table_laws.ensures c.in-None.ensures
    ∙ ap (λ h. named_reference exact in_value h next (longest_name references h)) (sym c.text.ensures.text) in
    record {
      emits = rw same c.resolve_name.ensures.emits;
      found = rw same c.resolve_name.ensures.found;
      ends =
          IfOk-weaker c.resolve_name.result (λ (found : Found). found.taken ≤ length text) (λ (found : Found). (d : ℕ) → next ≡ Some d → nat_lt (length held) found.taken ≡ ends_number held d)
          (λ (found : Found) within d e. ends-name held d found.taken c.in-None.ensures (subst (λ h. found.taken ≤ length h) c.text.ensures.text within)) c.resolve_name.ensures.within;
    }
