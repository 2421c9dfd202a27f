-- The rests of two names where one of them is at its end.
use Rattle.std.proofs.Common.{◌≡◌, ℕ, ◌<◌, ◌≢◌, get_or, List, [], ◌∷◌, length, refl, arith}
use Rattle.std.proofs.lemmas.Bool.{ne_eqb}
use Rattle.html5names.specs.Slips.{rests}

pub first_ends : (name other : List ℕ) → length name < 1 → rests name other ≡ (name, other)
first_ends [] other ends = refl
first_ends (a ∷ name) other ends = absurd (omega arith)

pub second_ends : (name other : List ℕ) → length other < 1 → rests name other ≡ (name, other)
second_ends [] [] ends = refl
second_ends (a ∷ name) [] ends = refl
second_ends name (b ∷ other) ends = absurd (omega arith)

pub apart : (name other : List ℕ) → 0 < length name → 0 < length other → get_or name 0 0 ≢ get_or other 0 0 → rests name other ≡ (name, other)
apart [] other some more differ = absurd (omega arith)
apart (a ∷ name) [] some more differ = refl
apart (a ∷ name) (b ∷ other) some more differ = rw (ne_eqb a b differ) refl
