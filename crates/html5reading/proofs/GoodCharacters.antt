-- Characters that are not bad.
use Rattle.std.proofs.Common.{◌≡◌, ◌⊎◌, inl, inr, ℕ, ◌<◌, ◌≤◌, ◌%◌, false, refl, arith}
use Rattle.std.specs.Prelude.{leb}
use Rattle.std.proofs.lemmas.Bool.{ne_eqb, lt-leb}
use Rattle.std.proofs.Math.Bool.{and-false}
use native.Mathlib.Nat.{mod-eq_of_lt}
use Rattle.html5reading.specs.Characters.{is_between, is_bad_character}

outside : (low high c : ℕ) → (c < low) ⊎ (high < c) → is_between low high c ≡ false
outside low high c (inl below) = rw (lt-leb low c below) refl
outside low high c (inr above) = rw (lt-leb c high above) (and-false (leb low c))

-- from `#` to `z` no character is bad
pub good_between : (c : ℕ) → 0x23 ≤ c → c ≤ 0x7A → is_bad_character c ≡ false
unfolding is_bad_character
good_between c low high =
    let small : c % 0x1_0000 ≡ c = mod-eq_of_lt (omega (arith, high)) in
    rw (
      outside 0x01 0x08 c (inr (omega (arith, low))),
      ne_eqb c 0x0B (λ e. omega (arith, low, e)),
      outside 0x0E 0x1F c (inr (omega (arith, low))),
      outside 0x7F 0x9F c (inl (omega (arith, high))),
      outside 0xFDD0 0xFDEF c (inl (omega (arith, high))),
      small,
      lt-leb 0xFFFE c (omega (arith, high)),
    )
    refl
