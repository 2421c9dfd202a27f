-- What adding the rules of a text does.
use Rattle.std.specs.Prelude.{◌≡◌, ◌⊎◌, ℕ, List, Result, Ok, Err}
use Rattle.html5policy.specs.Policy.{PolicyOf}
use Rattle.html5policy.specs.Rules.{RuleOf}
use Rattle.html5policy.specs.Rules.RuleOf.{Attribute as AttributeRule, Everywhere as EverywhereRule, Scheme as SchemeRule, Hidden as HiddenRule, Rel as RelRule}
use Rattle.html5policy.specs.declared.error.RuleError.{RuleError}
use Rattle.html5policy.specs.declared.error.RuleError.TheVariants.{Memory}
use Rattle.html5policy.specs.declared.error.PolicyError.{PolicyError}
use Rattle.html5policy.specs.declared.text.Naming.{Naming}
use Rattle.html5policy.specs.declared.text.Naming.TheVariants.{AttributesOf, Everywhere, Schemes, Hidden, Rel}

-- the rule of one name
abbrev pub naming : Naming → List ℕ → RuleOf
naming (AttributesOf element) = λ name. AttributeRule element.now name
naming Everywhere = λ name. EverywhereRule name
naming Schemes = λ name. SchemeRule name
naming Hidden = λ name. HiddenRule name
naming Rel = λ name. RelRule name

-- a call left the stated policy, or answered the stated fault; but memory may run out
abbrev pub Adds : {T : Type 0} → Result T RuleError → Result PolicyOf RuleError → PolicyOf → Type 0
Adds (Ok done) said new = said ≡ Ok new
Adds (Err fault) said new = (fault ≡ Memory) ⊎ (said ≡ Err fault)

-- the same of the line of this number
abbrev pub AddsLine : {T : Type 0} → Result T PolicyError → ℕ → Result PolicyOf RuleError → PolicyOf → Type 0
AddsLine (Ok done) number said new = said ≡ Ok new
AddsLine (Err error) number said new = (error.line ≡ number) × ((error.fault ≡ Memory) ⊎ (said ≡ Err error.fault))
