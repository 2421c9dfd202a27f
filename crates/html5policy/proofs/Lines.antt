-- Rules and lines, one after the other.
use Rattle.std.proofs.Common.{◌≡◌, ◌⊎◌, inl, inr, ℕ, ◌+◌, List, [], ◌∷◌, Result, Ok, Err, map, refl, sym, ap, ◌∙◌}
use Rattle.std.specs.Prelude.{IfErr, OnOk, false, codes}
use Rattle.std.specs.Str.{bytes_eq}
use Rattle.html5policy.specs.Policy.{PolicyOf, nothing_kept}
use Rattle.html5policy.specs.Adding.{Adds}
use Rattle.html5policy.specs.Rules.{RuleOf, rule_added}
use Rattle.html5policy.specs.Rules.RuleOf.{Rel}
use Rattle.html5policy.specs.Text.{after_line, after_rule, begins_remark, each_said, line_added, lines, lines_added, noopener_said, policy_said, rules_added, rules_by_word, said_added}
use Rattle.html5policy.specs.declared.error.RuleError.{RuleError}
use Rattle.html5policy.specs.declared.error.RuleError.TheVariants.{Memory, NoName, UnknownRule}
use Rattle.html5policy.specs.declared.error.PolicyError.{PolicyError}

pub rules-ok : (p q : PolicyOf) (rule : RuleOf) (rules : List RuleOf) → rule_added p rule ≡ Ok q → rules_added p (rule ∷ rules) ≡ rules_added q rules
unfolding rules_added
rules-ok p q rule rules e = ap (after_rule (λ next. rules_added next rules)) e

pub rules-err : (p : PolicyOf) (fault : RuleError) (rule : RuleOf) (rules : List RuleOf) → rule_added p rule ≡ Err fault → rules_added p (rule ∷ rules) ≡ Err fault
unfolding rules_added
rules-err p fault rule rules e = ap (after_rule (λ next. rules_added next rules)) e

pub lines-ok : (p q : PolicyOf) (number : ℕ) (line : List ℕ) (later : List (List ℕ)) → line_added p line ≡ Ok q → lines_added p number (line ∷ later) ≡ lines_added q (number + 1) later
unfolding lines_added
lines-ok p q number line later e = ap (after_line number (λ next. lines_added next (number + 1) later)) e

pub lines-end : (p q : PolicyOf) (number : ℕ) (line : List ℕ) → line_added p line ≡ Ok q → lines_added p number (line ∷ []) ≡ Ok q
unfolding lines_added
lines-end p q number line e = ap (after_line number (λ next. lines_added next (number + 1) [])) e

-- the fault of a line is that of the text
pub lines-err : (said : Result PolicyOf PolicyError) (p : PolicyOf) (error : PolicyError) (number : ℕ) (line : List ℕ) (later : List (List ℕ))
    → said ≡ lines_added p number (line ∷ later)
    → (error.line ≡ number) × ((error.fault ≡ Memory) ⊎ (line_added p line ≡ Err error.fault))
    → (error.fault ≡ Memory) ⊎ (said ≡ Err error)
unfolding lines_added
lines-err said p error number line later is (place, inl memory) = inl memory
lines-err said p error number line later is (place, inr fault) =
    inr (is ∙ ap (after_line number (λ next. lines_added next (number + 1) later)) fault ∙ ap (λ n. Err (record { line = n; fault = error.fault })) (sym place))

-- where a text begins
pub said-start : (text : List ℕ) → policy_said text ≡ lines_added nothing_kept 1 (lines text)
unfolding policy_said
said-start text = refl

-- the fault of a rule is that of the rules
pub rules-fault : (said : Result PolicyOf RuleError) (p : PolicyOf) (fault : RuleError) (rule : RuleOf) (rules : List RuleOf)
    → said ≡ rules_added p (rule ∷ rules) → (fault ≡ Memory) ⊎ (rule_added p rule ≡ Err fault) → (fault ≡ Memory) ⊎ (said ≡ Err fault)
rules-fault said p fault rule rules is (inl memory) = inl memory
rules-fault said p fault rule rules is (inr wrong) = inr (is ∙ rules-err p fault rule rules wrong)

pub rules-none : (p : PolicyOf) → rules_added p [] ≡ Ok p
unfolding rules_added
rules-none p = refl

pub each-some : (rule : List ℕ → RuleOf) (names : List (List ℕ)) (name : List ℕ) (later : List (List ℕ)) → names ≡ name ∷ later → each_said rule names ≡ Ok (map rule names)
unfolding each_said
each-some rule names name later is = ap (each_said rule) is ∙ ap (λ n. Ok (map rule n)) (sym is)

pub each-none : (rule : List ℕ → RuleOf) (names : List (List ℕ)) → names ≡ [] → each_said rule names ≡ Err NoName
unfolding each_said
each-none rule names is = ap (each_said rule) is

-- the rule `noopener`
pub noopener-added : {T : Type 0} (result : Result T RuleError) (p new : PolicyOf) (names : List (List ℕ)) → names ≡ []
    → OnOk result (rule_added p (Rel (codes "noopener")) ≡ Ok new) → IfErr result (λ fault. (fault ≡ Memory) ⊎ (rule_added p (Rel (codes "noopener")) ≡ Err fault))
    → Adds result (said_added p (noopener_said names)) new
unfolding noopener_said
noopener-added (Ok done) p new names none added faults =
    ap (λ n. said_added p (noopener_said n)) none ∙ rules-ok p new (Rel (codes "noopener")) [] added ∙ rules-none new
noopener-added (Err fault) p new names none added (inl memory) = inl memory
noopener-added (Err fault) p new names none added (inr wrong) =
    inr (ap (λ n. said_added p (noopener_said n)) none ∙ rules-err p fault (Rel (codes "noopener")) [] wrong)

-- a word that is not among the rules
pub unknown-word : (word : List ℕ) (names : List (List ℕ)) → begins_remark word ≡ false → bytes_eq word (codes "allow") ≡ false → bytes_eq word (codes "everywhere") ≡ false
    → bytes_eq word (codes "schemes") ≡ false → bytes_eq word (codes "hide") ≡ false → bytes_eq word (codes "rel") ≡ false → bytes_eq word (codes "noopener") ≡ false → bytes_eq word (codes "balance") ≡ false
    → bytes_eq word (codes "tree") ≡ false → bytes_eq word (codes "depth") ≡ false → rules_by_word word names ≡ Err UnknownRule
unfolding rules_by_word
unknown-word word names remark allow everywhere schemes hide rel noopener balance tree depth = rw (remark, allow, everywhere, schemes, hide, rel, noopener, balance, tree, depth) refl

pub same-policy : (said : Result PolicyOf PolicyError) (p q : PolicyOf) → said ≡ Ok p → said ≡ Ok q → p ≡ q
same-policy said p q first second = cc

-- the fault of a rule, by another name of it
pub fault-of_rule : (p : PolicyOf) (fault : RuleError) (rule other : RuleOf) → rule ≡ other → (fault ≡ Memory) ⊎ (rule_added p rule ≡ Err fault) → (fault ≡ Memory) ⊎ (rule_added p other ≡ Err fault)
fault-of_rule p fault rule other same (inl memory) = inl memory
fault-of_rule p fault rule other same (inr wrong) = inr (ap (rule_added p) (sym same) ∙ wrong)
