-- What each call makes of the policy that a handle is of: its rules come one by one.
use Rattle.std.specs.Prelude.{◌≡◌, ◌≢◌, ◌↔◌, ◌⊎◌, ◌==◌, ◌^◌, ◌-◌, ℕ, List, [], ◌∷◌, Option, None, Some, Result, Ok, Err, if◌then◌else◌}
use Rattle.std.specs.Str.{IsUtf8}
use Rattle.html5handle.specs.Slots.{WhereOpen, policy_of}
use Rattle.html5handle.specs.declared.slot.PageSlot.{PageSlot}
use Rattle.html5cleaning.specs.Cleaning.{CleaningOf, StartsPage}
use Rattle.html5entities.specs.Standard.{standard_list}
use Rattle.html5policy.specs.Policy.{PolicyOf, nothing_kept}
use Rattle.html5policy.specs.Rules.{RuleOf, rule_added}
use Rattle.html5policy.specs.Rules.RuleOf.{Element, Attribute, Everywhere, Scheme, Hidden, Rel, Balance, Tree, Depth}
use Rattle.html5policy.specs.Text.{number_said}
use Rattle.html5policy.specs.declared.error.RuleError.{RuleError}
use Rattle.html5policy.specs.declared.error.RuleError.TheVariants as fault
use Rattle.html5table.specs.Listed.{entries_in}
use Rattle.markup5ever.specs.NamedReferences.{table_of}

-- ---- why a rule is refused

-- the status that says it
abbrev pub rule_status : RuleError → ℕ
rule_status fault.UnknownRule = 16
rule_status fault.NoName = 17
rule_status fault.WordTooMany = 18
rule_status fault.ElementName = 19
rule_status fault.AttributeName = 20
rule_status fault.HidesContent = 21
rule_status fault.ActsOnPage = 22
rule_status fault.AllowedAndHidden = 23
rule_status fault.NeverKept = 24
rule_status fault.SchemeName = 25
rule_status fault.RunsAddress = 26
rule_status fault.NoPlace = 27
rule_status fault.Depth = 28
rule_status fault.RelWord = 29
rule_status fault.Memory = 3

-- ---- the rule that a number and names say, or the status of what is wrong with them

-- a rule that takes no attribute
abbrev pub alone : List ℕ → RuleOf → Result RuleOf ℕ
alone [] rule = Ok rule
alone (b ∷ attribute) rule = Err 18

-- a rule that takes no name
abbrev pub bare : List ℕ → List ℕ → RuleOf → Result RuleOf ℕ
bare [] attribute rule = alone attribute rule
bare (b ∷ name) attribute rule = Err 18

abbrev pub depth_by : Option ℕ → List ℕ → Result RuleOf ℕ
depth_by (Some depth) attribute = alone attribute (Depth depth)
depth_by None attribute = Err 28

-- a number in decimal digits
abbrev pub depth_said : List ℕ → List ℕ → Result RuleOf ℕ
depth_said number attribute = depth_by (number_said number) attribute

unfoldable pub rule_said : ℕ → List ℕ → List ℕ → Result RuleOf ℕ
rule_said rule name attribute =
    if rule == 0 then alone attribute (Element name)
    else if rule == 1 then Ok (Attribute name attribute)
    else if rule == 2 then alone attribute (Everywhere name)
    else if rule == 3 then alone attribute (Scheme name)
    else if rule == 4 then alone attribute (Hidden name)
    else if rule == 5 then alone attribute (Rel name)
    else if rule == 6 then bare name attribute Balance
    else if rule == 7 then bare name attribute Tree
    else if rule == 8 then depth_said name attribute
    else Err 9

-- the statuses for what says no rule: no rule has the number, there is a name too many, or there is no number
abbrev pub IsRefusal : ℕ → Type 0
IsRefusal status = (status ≡ 9) ⊎ (status ≡ 18) ⊎ (status ≡ 28)

-- a policy with a rule, or the status of what is wrong with it
abbrev pub by_status : Result PolicyOf RuleError → Result PolicyOf ℕ
by_status (Ok policy) = Ok policy
by_status (Err error) = Err (rule_status error)

abbrev pub added_by : PolicyOf → Result RuleOf ℕ → Result PolicyOf ℕ
added_by policy (Ok rule) = by_status (rule_added policy rule)
added_by policy (Err status) = Err status

-- a policy with the rule that a number and names say, or the status of what is wrong with it
abbrev pub with_said : PolicyOf → ℕ → List ℕ → List ℕ → Result PolicyOf ℕ
with_said policy rule name attribute = added_by policy (rule_said rule name attribute)

-- ---- what a status says

-- of a rule whose names are UTF-8
pub record SaidAdded (old new : PolicyOf) (rule : ℕ) (name attribute : List ℕ) (status : ℕ) : Type 0 where
  pub done : status ≡ 0 → with_said old rule name attribute ≡ Ok new
  pub unchanged : status ≢ 0 → new ≡ old
  pub cause : status ≢ 0 → status ≢ 3 → with_said old rule name attribute ≡ Err status
  -- its fault is reported, whatever memory there is
  pub refused : (wrong : ℕ) → with_said old rule name attribute ≡ Err wrong → status ≡ wrong
  pub text : status ≢ 4

pub record AddRuleSays (old new : PolicyOf) (rule : ℕ) (name attribute : List ℕ) (status : ℕ) : Type 0 where
  pub done : status ≡ 0 → with_said old rule name attribute ≡ Ok new
  pub unchanged : status ≢ 0 → new ≡ old
  pub not_utf8 : (status ≡ 4) ↔ ¬ (IsUtf8 name × IsUtf8 attribute)
  pub cause : status ≢ 0 → status ≢ 3 → status ≢ 4 → with_said old rule name attribute ≡ Err status
  pub refused : IsUtf8 name → IsUtf8 attribute → (wrong : ℕ) → with_said old rule name attribute ≡ Err wrong → status ≡ wrong

-- the same, of a handle that is of a policy or of none
abbrev pub AddsRule : Option PolicyOf → Option PolicyOf → ℕ → List ℕ → List ℕ → ℕ → Type 0
AddsRule old new rule name attribute status = WhereOpen (λ p q. AddRuleSays p q rule name attribute status) (status ≡ 8) old new

-- a new policy: any status but DONE leaves the handle closed
pub record NewPolicySays (now : Option PageSlot) (status : ℕ) : Type 0 where
  pub done : status ≡ 0 → policy_of now ≡ Some nothing_kept
  pub refused : status ≢ 0 → now ≡ None
  pub only : (status ≡ 0) ⊎ (status ≡ 3)

-- a page at its start, which is cleaned by the policy, and reads references by the standard's names
abbrev pub IsStartBy : PolicyOf → Option CleaningOf → Type 0
IsStartBy policy None = ⊥
IsStartBy policy (Some s) = StartsPage policy (table_of (entries_in standard_list)) (2 ^ 64 - 1) None s

-- a page began, or the policy is as it was
pub record BeginSays (policy : PolicyOf) (kept : Option PolicyOf) (page : Option CleaningOf) (status : ℕ) : Type 0 where
  pub done : status ≡ 0 → IsStartBy policy page
  pub no_memory : status ≡ 3 → kept ≡ Some policy
  pub only : (status ≡ 0) ⊎ (status ≡ 3)

abbrev pub BeginsCleaner : Option PolicyOf → Option PolicyOf → Option CleaningOf → ℕ → Type 0
BeginsCleaner (Some policy) kept page status = BeginSays policy kept page status
BeginsCleaner None kept page status = status ≡ 8
