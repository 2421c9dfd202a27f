-- Names that end with a semicolon, as a function finds them.
use Rattle.std.proofs.Common.{◌≡◌, ℕ, Bool, true, false, List, [], ◌∷◌, ◌++◌, refl, sym, ap, ◌∙◌}
use Rattle.std.specs.Prelude.{◌==◌}
use Rattle.std.proofs.lemmas.Bool.{eqb-true}
use Rattle.html5reading.specs.Characters.{semicolon}
use Rattle.html5reading.specs.Reference.{is_ended}

is_ended-push : (front : List ℕ) (c : ℕ) → is_ended (front ++ c ∷ []) ≡ (c == semicolon)
unfolding is_ended
is_ended-push [] c = refl
is_ended-push (x ∷ []) c = refl
is_ended-push (x ∷ y ∷ front) c = is_ended-push (y ∷ front) c

ended_front : (name : List ℕ) → is_ended name ≡ true → (front : List ℕ) × (name ≡ front ++ semicolon ∷ [])
unfolding is_ended
ended_front [] ended = absurd cc
ended_front (c ∷ []) ended = let same : c ≡ semicolon = eqb-true c semicolon ended in ([], ap (λ d. d ∷ []) same)
ended_front (c ∷ d ∷ name) ended = let rest = ended_front (d ∷ name) ended in (c ∷ rest.0, ap (λ l. c ∷ l) rest.1)

pub is_ended-from_end : (name front : List ℕ) (ends : Bool) → (ends ≡ true → name ≡ front ++ semicolon ∷ []) × ((front : List ℕ) → name ≡ front ++ semicolon ∷ [] → ends ≡ true) → ends ≡ is_ended name
is_ended-from_end name front true parts = sym (ap is_ended (parts.0 refl) ∙ is_ended-push front semicolon)
is_ended-from_end name front false parts =
    elim (is_ended name) as (λ b. is_ended name ≡ b → false ≡ b) [
      | true ↦ λ ended. let cut = ended_front name ended in parts.1 cut.0 cut.1
      | false ↦ λ ended. refl
    ] refl
