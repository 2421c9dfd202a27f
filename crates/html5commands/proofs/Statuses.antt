-- What the status of a run says.
use Rattle.std.proofs.Common.{◌≡◌, ℕ, Bool, true, false, refl, List, [], ◌∷◌, Option, None, Some, inl, inr, rules, sym, ap, ◌∙◌, subst}
use Rattle.std.specs.Prelude.{◌⊎◌, Contains, IfSome}
use Rattle.std.proofs.lemmas.Option.{none-some}
use Rattle.html5commands.specs.Commands.{Named, PrintsBy, SaysFirst, SaysItself, asked_of_command, command_named, command_of, named_by}
use Rattle.html5programs.specs.Ending.{AsksNoText, HasWrongWord, status_of}
use Rattle.html5programs.specs.declared.ending.Ending.{Ending}
use Rattle.html5programs.specs.declared.ending.Ending.TheVariants.{Closed, Done, Found, Missed, NoMemory, NoSettings, NoTable, Unprinted, WrongValue, WrongWord}

has-one : Contains {X = ℕ} (1 ∷ 2 ∷ []) 1
has-one = search rules

has-two : Contains {X = ℕ} (1 ∷ 2 ∷ []) 2
has-two = search rules

is-failure : (ending : Ending) (status : ℕ) → status ≡ status_of ending → (ending ≡ WrongWord) ⊎ (ending ≡ NoMemory) → Contains {X = ℕ} (1 ∷ 2 ∷ []) status
is-failure ending status is (inl wrong) = subst (Contains {X = ℕ} (1 ∷ 2 ∷ [])) (sym (is ∙ ap status_of wrong)) has-two
is-failure ending status is (inr none) = subst (Contains {X = ℕ} (1 ∷ 2 ∷ [])) (sym (is ∙ ap status_of none)) has-one

pub wrong-status : (named : Option Named) (ending : Ending) (status : ℕ) → status ≡ status_of ending
    → IfSome named (λ named. HasWrongWord (asked_of_command named) → (ending ≡ WrongWord) ⊎ (ending ≡ NoMemory))
    → IfSome named (λ named. HasWrongWord (asked_of_command named) → Contains {X = ℕ} (1 ∷ 2 ∷ []) status)
wrong-status None ending status is usage = tt
wrong-status (Some named) ending status is usage = λ wrong. is-failure ending status is (usage wrong)

-- a run that ends with 0, and whose reader didn't go away, is done
pub is-done : (ending : Ending) (status : ℕ) (closed : Bool) → status ≡ status_of ending → status ≡ 0 → (ending ≡ Closed → closed ≡ true) → closed ≡ false
    → ending ≡ Done
is-done Done status closed is zero gone here = refl
is-done Found status closed is zero gone here = search rules
is-done Closed status closed is zero gone here = search rules
is-done Missed status closed is zero gone here = search rules
is-done Unprinted status closed is zero gone here = search rules
is-done NoMemory status closed is zero gone here = search rules
is-done WrongWord status closed is zero gone here = search rules
is-done WrongValue status closed is zero gone here = search rules
is-done NoTable status closed is zero gone here = search rules
is-done NoSettings status closed is zero gone here = search rules

-- what a done run of a command printed
pub done-prints : (named : Option Named) (ending : Ending) (given unread left : Option (List ℕ)) (written : List ℕ) → ending ≡ Done → unread ≡ given
    → IfSome named (λ named. AsksNoText (asked_of_command named) → ending ≡ Done → PrintsBy named.command (asked_of_command named) unread left written false)
    → IfSome named (λ named. AsksNoText (asked_of_command named)
    → (left : Option (List ℕ)) × PrintsBy named.command (asked_of_command named) given left written false)
done-prints None ending given unread left written done same prints = tt
done-prints (Some named) ending given unread left written done same prints =
    λ none. (left, subst (λ u. PrintsBy named.command (asked_of_command named) u left written false) same (prints none done))

pub done-says : (named : Option Named) (ending : Ending) (asks says : Named → Type 0) → ending ≡ Done
    → IfSome named (λ named. asks named → ending ≡ Done → says named) → IfSome named (λ named. asks named → says named)
done-says None ending asks says done said = tt
done-says (Some named) ending asks says done said = λ asked. said asked done

-- the name of a command asks for no text of the program
no-help : (written : List ℕ) (word : List ℕ) (words : List (List ℕ)) (named : Named) → named_by words (command_of word) ≡ Some named → SaysItself word written
unfolding command_of
no-help written word words named some = record {
  help = λ is. absurd (none-some named (subst (λ w. named_by words (command_of w) ≡ Some named) is some));
  version = λ is. absurd (none-some named (subst (λ w. named_by words (command_of w) ≡ Some named) is some));
}

pub no-first : (words : List (List ℕ)) (written : List ℕ) (named : Named) → command_named words ≡ Some named → SaysFirst words written
no-first [] written named some = tt
no-first (word ∷ words) written named some = no-help written word words named some
