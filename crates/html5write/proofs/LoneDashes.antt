-- Dashes of a text, one character after another.
use Rattle.std.proofs.Common.{◌≡◌, ℕ, Bool, true, false, List, [], ◌∷◌, refl}
use Rattle.std.specs.Prelude.{◌==◌, ◌&&◌, ◌||◌, not}
use Rattle.html5reading.specs.Characters.{hyphen}
use Rattle.html5write.specs.Pieces.{can_follow_dash, has_lone_dashes}

-- whether the dashes of a text are lone, after a dash or not
abbrev pub lone_from : Bool → List ℕ → Bool
lone_from true text = can_follow_dash text && has_lone_dashes text
lone_from false text = has_lone_dashes text

pub lone-next : (dash : Bool) (c : ℕ) (text : List ℕ) → (dash && (c == hyphen)) ≡ false → lone_from dash (c ∷ text) ≡ lone_from (c == hyphen) text
unfolding can_follow_dash has_lone_dashes
lone-next true c text h = rw h refl
lone-next false c text h =
    elim (c == hyphen) as (λ b. ((not b || can_follow_dash text) && has_lone_dashes text) ≡ lone_from b text) [ true ↦ refl | false ↦ refl ]

pub lone-double : (c : ℕ) (text : List ℕ) → (c == hyphen) ≡ true → lone_from true (c ∷ text) ≡ false
unfolding can_follow_dash has_lone_dashes
lone-double c text h = rw h refl

pub lone-end : (dash : Bool) → lone_from dash [] ≡ not dash
unfolding can_follow_dash has_lone_dashes
lone-end true = refl
lone-end false = refl
