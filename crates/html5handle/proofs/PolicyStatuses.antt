-- What is left if no rule is given.
use Rattle.std.proofs.Common.{◌≡◌, ℕ, List, Result, Err, refl, ap, sym, ◌∙◌, arith}
use Rattle.html5handle.proofs.Statuses.{either}
use Rattle.html5handle.specs.PolicyCalls.{IsRefusal, SaidAdded, added_by, rule_said, with_said}
use Rattle.html5policy.specs.Policy.{PolicyOf}

same-status : (said : Result PolicyOf ℕ) (a b : ℕ) → said ≡ Err a → said ≡ Err b → a ≡ b
same-status said a b first second = cc

no-done : (status : ℕ) → IsRefusal status → status ≡ 0 → ⊥
no-done status refusal e = either (λ a. omega (arith, a, e)) (either (λ a. omega (arith, a, e)) (λ a. omega (arith, a, e))) refusal

is-text : (status : ℕ) → IsRefusal status → status ≡ 4 → ⊥
is-text status refusal e = either (λ a. omega (arith, a, e)) (either (λ a. omega (arith, a, e)) (λ a. omega (arith, a, e))) refusal

pub said-refused : (old : PolicyOf) (rule : ℕ) (name attribute : List ℕ) (status : ℕ) → rule_said rule name attribute ≡ Err status → IsRefusal status
    → SaidAdded old old rule name attribute status
said-refused old rule name attribute status said refusal =
    let wrong : with_said old rule name attribute ≡ Err status = ap (added_by old) said in
    record {
      done = λ e. absurd (no-done status refusal e);
      unchanged = λ _. refl;
      cause = λ _ _. wrong;
      refused = λ other is. same-status (with_said old rule name attribute) status other wrong is;
      text = is-text status refusal;
    }
