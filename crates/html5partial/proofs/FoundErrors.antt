-- The messages of references, as a formatter writes them.
use Rattle.std.proofs.Common.{◌≡◌, ℕ, ◌-◌, ◌%◌, ◌^◌, ◌<◌, true, false, List, [], ◌++◌, length, refl, arith}
use Rattle.std.specs.Prelude.{codes, replicate}
use Rattle.std.specs.Fmt.{digits, char_count, padded_integral, format_spec}
use Rattle.std.proofs.lemmas.List.{append-nil}
use Rattle.html5reading.specs.Reference.{invalid_number, six_digits}

-- what `{:06X}` writes
pub six_wide : (numeral : List ℕ) → padded_integral (format_spec 32 0 4 6 (2 ^ 64 - 1)) false [] numeral ≡ replicate (6 - length numeral) 0x30 ++ numeral
unfolding padded_integral char_count
six_wide numeral =
    let width : 6 - length numeral - 0 - 0 ≡ 6 - length numeral = omega arith in
    rw (width, append-nil numeral) refl

pub six_digits_is : (number : ℕ) → padded_integral (format_spec 32 0 4 6 (2 ^ 64 - 1)) false [] (digits 16 true number) ≡ six_digits number
unfolding six_digits
six_digits_is number = six_wide (digits 16 true number)

pub last_bits_alone : (number : ℕ) → number < 2 ^ 32 → invalid_number true number ≡ codes "Invalid numeric character reference value 0x" ++ six_digits number
unfolding invalid_number
last_bits_alone number small =
    let same : number % 2 ^ 32 ≡ number = omega arith in
    rw same refl
