use Rattle.std.proofs.Common.{ap, ◌∙◌, map, refl, rules}
use Rattle.std.proofs.lemmas.List.Sorted.{IsNonDecreasingBy-from_sort, answers_always}
use Rattle.html5check.specs.Faults.{Finding, finding_by}
use Rattle.html5check.specs.Order.{in_order}
use Rattle.html5check.specs.declared.finding.Finding.{Finding as RustFinding}
use Rattle.html5check.proofs.Orders.{in_order-from_sort, map-in_order}
use Rattle.html5check.proofs.findings.findings_in.Goals as goal

pub returns : goal.returns
returns c =
    let keys = answers_always _ _ _ (λ f a r g h. search rules) in
    let found = c.in_ok-found.found.items in
    let sorted = c.in_ok-sort_by_key.ensures.sorted (λ (f : RustFinding). f.begin) keys in
    let stable = c.in_ok-sort_by_key.ensures.stable (λ (f : RustFinding). f.begin) keys in
    ap (map finding_by) (in_order-from_sort (λ (f : RustFinding). f.begin) found c.sort_by_key.new.self.items (IsNonDecreasingBy-from_sort (λ (f : RustFinding). f.begin) _ sorted) stable)
    ∙ map-in_order (λ (f : RustFinding). f.begin) (λ (f : Finding). f.begin) finding_by (λ f. refl) found
    ∙ ap (in_order (λ (f : Finding). f.begin)) c.in_ok-found.ensures
