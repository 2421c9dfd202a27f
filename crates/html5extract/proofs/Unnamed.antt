-- Without a name in front lines are printed as they are.
use Rattle.std.proofs.Common.{◌≡◌, ℕ, Bool, true, false, List, [], ◌∷◌, ◌++◌, Option, None, Some, refl, sym, ap, nat_eq, not}
use Rattle.std.specs.Prelude.{is_some}
use Rattle.html5extract.specs.TokenLines.{lines_added, token_named}
use Rattle.html5programs.specs.Fronts.{in_front}

lines-unnamed : (begun : Bool) (bytes : List ℕ) → lines_added [] begun bytes ≡ bytes
unfolding lines_added
lines-unnamed begun [] = refl
lines-unnamed true (byte ∷ bytes) = ap (λ l. byte ∷ l) (lines-unnamed (not (nat_eq byte 10)) bytes)
lines-unnamed false (byte ∷ bytes) = ap (λ l. byte ∷ l) (lines-unnamed (not (nat_eq byte 10)) bytes)

bare : (in_text is_text : Bool) (bytes : List ℕ) → token_named [] in_text is_text bytes ≡ bytes
bare in_text false bytes = lines-unnamed in_text bytes
bare in_text true [] = refl
bare true true (byte ∷ bytes) = refl
bare false true (byte ∷ bytes) = refl

pub unnamed : (front : Option (List ℕ)) (in_text is_text : Bool) (bytes : List ℕ) → is_some front ≡ false → token_named (in_front front) in_text is_text bytes ≡ bytes
unnamed None in_text is_text bytes none = bare in_text is_text bytes
unnamed (Some name) in_text is_text bytes none = absurd cc
