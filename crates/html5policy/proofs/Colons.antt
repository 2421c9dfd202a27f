-- A colon where nothing of a scheme is left.
use Rattle.std.proofs.Common.{◌≡◌, ℕ, ◌<◌, ◌+◌, Bool, true, false, List, [], ◌∷◌, ◌++◌, length, get_or, drop, refl, ap, ◌∙◌, arith}
use Rattle.std.specs.Prelude.{◌&&◌, ◌==◌, if◌then◌else◌}
use Rattle.std.specs.Char.{to_ascii_lowercase}
use Rattle.std.proofs.lemmas.Bool.Decides.{nat_tests}
use Rattle.std.proofs.lemmas.List.{at_drop_more}
use Rattle.html5policy.specs.Addresses.{has_scheme, is_passed_over}

lower-where : (byte : ℕ) (same : Bool) → (byte == 58) ≡ same → (to_ascii_lowercase byte == 58) ≡ same
lower-where byte true is = grind (arith, nat_tests)
lower-where byte false is = grind (arith, nat_tests)

has-nothing : (address : List ℕ) → has_scheme address [] ≡ true
unfolding has_scheme
has-nothing [] = refl
has-nothing (byte ∷ address) = refl

and-true : (b : Bool) → (b && true) ≡ b
and-true true = refl
and-true false = refl

colon-here : (byte : ℕ) (address : List ℕ) → is_passed_over byte ≡ false → has_scheme (byte ∷ address) (58 ∷ []) ≡ (byte == 58)
unfolding has_scheme
colon-here byte address other =
    ap (λ b. if b then has_scheme address (58 ∷ []) else (to_ascii_lowercase byte == 58) && has_scheme address []) other
    ∙ ap (λ b. (to_ascii_lowercase byte == 58) && b) (has-nothing address)
    ∙ and-true (to_ascii_lowercase byte == 58)
    ∙ lower-where byte (byte == 58) refl

pub colon-left : (address left : List ℕ) (i : ℕ) → i < length address → is_passed_over (get_or address i 0) ≡ false → length left ≡ 0
    → has_scheme (drop i address) (left ++ 58 ∷ []) ≡ (get_or address i 0 == 58)
colon-left address [] i within other none =
    at_drop_more (λ l. has_scheme l (58 ∷ [])) address i 0 within ∙ colon-here (get_or address i 0) (drop (i + 1) address) other
colon-left address (letter ∷ left) i within other none = absurd (omega (arith, none))
