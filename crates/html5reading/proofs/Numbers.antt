-- A number of a character reference, by its first character.
use Rattle.std.proofs.Common.{◌≡◌, ℕ, true, false, List, ◌∷◌, refl, if◌then◌else◌}
use Rattle.std.specs.Char.{is_ascii_digit, is_ascii_hexdigit}
use Rattle.std.specs.List.{list_all}
use Rattle.html5reading.specs.Reference.{is_x, is_number}

pub is_number-cons : (d : ℕ) (text : List ℕ) → is_number (d ∷ text) ≡ (if is_x d then list_all is_ascii_hexdigit text else list_all is_ascii_digit (d ∷ text))
unfolding is_number
is_number-cons d text =
    elim (is_x d) as (λ b. list_all (λ e. if b then is_ascii_hexdigit e else is_ascii_digit e) (if b then text else d ∷ text) ≡ (if b then list_all is_ascii_hexdigit text else list_all is_ascii_digit (d ∷ text))) [ true ↦ refl | false ↦ refl ]
