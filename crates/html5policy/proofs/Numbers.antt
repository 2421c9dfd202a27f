-- Numbers that are read.
use Rattle.std.proofs.Common.{◌≡◌, ℕ, ◌<◌, ◌^◌, true, false, List, [], ◌∷◌, Option, None, Some, Result, Ok, Err, refl, sym, ap, ◌∙◌, arith}
use Rattle.std.specs.Prelude.{length, nat_lt, ◌&&◌, if◌then◌else◌}
use Rattle.std.specs.Char.{is_ascii_digit}
use Rattle.std.specs.List.{list_all}
use Rattle.std.specs.Result.{OkIff}
use Rattle.std.specs.Str.{all_ascii_digits}
use Rattle.std.specs.Str.Parse.{digits_value, ParsesUnsigned}
use Rattle.std.proofs.lemmas.Bool.{false_from_ne_true}
use Rattle.std.proofs.lemmas.Bool.Decides.{Decides-ltb}
use Rattle.std.proofs.lemmas.Str.Parse.{IsNumeralModel, numerals_by_value, tells_all_ascii_digits, parse_digits}
use Rattle.html5policy.specs.Text.{number_said}

own : IsNumeralModel (λ ds. all_ascii_digits ds ≡ true) (digits_value 10)
own = numerals_by_value _ tells_all_ascii_digits

pub list_all-digits : (bs : List ℕ) → list_all is_ascii_digit bs ≡ all_ascii_digits bs
list_all-digits [] = refl
list_all-digits (b ∷ bs) = ap (λ r. is_ascii_digit b && r) (list_all-digits bs)

pub number-no_digits : (bs : List ℕ) → all_ascii_digits bs ≡ false → number_said bs ≡ None
unfolding number_said
number-no_digits bs e = rw e refl

-- the number that a parsed one means
abbrev pub parsed_number : {E : Type 0} → Result ℕ E → Option ℕ
parsed_number (Ok number) = if nat_lt 0 number then Some number else None
parsed_number (Err e) = None

number-okiff : {E : Type 0} (bs : List ℕ) (r : Result ℕ E) → all_ascii_digits bs ≡ true → OkIff r ((0 < length bs) × (digits_value 10 bs < 2 ^ 32)) (digits_value 10 bs)
    → number_said bs ≡ parsed_number r
unfolding number_said
number-okiff bs (Ok number) all h = rw (all, (Decides-ltb (digits_value 10 bs) (2 ^ 32)).1 h.0.1, h.1) refl
number-okiff [] (Err e) all h = refl
number-okiff (b ∷ bs) (Err e) all h =
    rw (all, false_from_ne_true (nat_lt (digits_value 10 (b ∷ bs)) (2 ^ 32)) (λ t. h (omega arith, (Decides-ltb (digits_value 10 (b ∷ bs)) (2 ^ 32)).0 t))) refl

pub number-parsed : {E : Type 0} (bs : List ℕ) (r : Result ℕ E) → all_ascii_digits bs ≡ true → ParsesUnsigned 32 10 bs r → number_said bs ≡ parsed_number r
number-parsed bs r all h = number-okiff bs r all (parse_digits own 32 bs r h all)

pub parsed-positive : {E : Type 0} (r : Result ℕ E) (number : ℕ) → r ≡ Ok number → 0 < number → parsed_number r ≡ Some number
parsed-positive r number e h = ap parsed_number e ∙ rw ((Decides-ltb 0 number).1 h) refl
