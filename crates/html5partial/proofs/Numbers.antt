-- Character references by number: their digits, one by one, and the character of a number.
use Rattle.std.proofs.Common.{◌≡◌, ℕ, ◌+◌, ◌*◌, ◌%◌, ◌^◌, ◌<◌, ◌≤◌, Bool, true, false, ◌&&◌, ◌||◌, List, [], ◌∷◌, ◌++◌, take, drop, get_or, length, Option, None, if◌then◌else◌, refl, sym, ap, ◌∙◌, inl, inr, arith}
use Rattle.std.specs.Prelude.{◌==◌, min, nat_eq, nat_lt, SomeIff, unwrap_or}
use Rattle.std.specs.Char.{IsScalar, digit_value, is_ascii_digit, is_ascii_hexdigit}
use Rattle.std.specs.List.{list_all}
use Rattle.std.specs.Map.{lookup}
use Rattle.std.specs.Str.Parse.{digits_value}
use Rattle.std.proofs.Math.Nat.{mod-add-mod, mod-mod, le-mul_of_pos_right}
use Rattle.std.proofs.lemmas.Bool.{and_parts, cases_lt}
use Rattle.std.proofs.lemmas.Bool.Decides.{nat_tests}
use Rattle.std.proofs.lemmas.Grind.{common_steps}
use Rattle.std.proofs.lemmas.Int.Digits.{digits_value_more}
use Rattle.std.proofs.lemmas.List.Folds.{list_all-append, list_all_at}
use Rattle.std.proofs.lemmas.Nat.{mul-mod_first}
use Rattle.html5reading.specs.Characters.{null, is_no_character, replacement_character}
use Rattle.html5reading.specs.Reference.{is_x, is_number, is_digit_of, base_of, after_x, character_of_number, is_invalid_number, invalid_number}
use Rattle.html5reading.proofs.Numbers.{is_number-cons}
use Rattle.markup5ever.specs.C1.{c1_characters, character_of_c1}

-- ---- what is a number

pub is_number-nil : is_number [] ≡ true
unfolding is_number
is_number-nil = refl

and_right-true : (a : Bool) → a && true ≡ a
and_right-true true = refl
and_right-true false = refl

-- a number begins with an `x` or a digit
pub is_number-first : (number : List ℕ) (c : ℕ) → length number ≡ 0 → is_number (number ++ c ∷ []) ≡ is_x c || is_ascii_digit c
is_number-first [] c none =
    is_number-cons c []
    ∙ elim (is_x c) as (λ b. (if b then true else is_ascii_digit c && true) ≡ b || is_ascii_digit c) [ true ↦ refl | false ↦ and_right-true (is_ascii_digit c) ]
is_number-first (d ∷ number) c none = absurd (omega arith)

and-true : (a b : Bool) → a ≡ true → a && b ≡ b
and-true a b h = rw h refl

abbrev base_where : Bool → ℕ
base_where hexadecimal = if hexadecimal then 16 else 10

-- a number goes on with the digits of its base
pub is_number-push : (number : List ℕ) (c : ℕ) → is_number number ≡ true → 0 < length number
    → is_number (number ++ c ∷ []) ≡ (if base_of number == 16 then is_ascii_hexdigit c else is_ascii_digit c)
is_number-push [] c number filled = absurd (omega arith)
is_number-push (d ∷ text) c number filled =
    is_number-cons d (text ++ c ∷ [])
    ∙ elim (is_x d) as (λ b. (if b then list_all is_ascii_hexdigit text else list_all is_ascii_digit (d ∷ text)) ≡ true
    → (if b then list_all is_ascii_hexdigit (text ++ c ∷ []) else list_all is_ascii_digit (d ∷ (text ++ c ∷ []))) ≡ (if base_where b == 16 then is_ascii_hexdigit c else is_ascii_digit c)) [
      | true ↦ λ all. list_all-append is_ascii_hexdigit text (c ∷ []) ∙ and-true _ _ all ∙ and_right-true (is_ascii_hexdigit c)
      | false ↦ λ all. list_all-append is_ascii_digit (d ∷ text) (c ∷ []) ∙ and-true _ _ all ∙ and_right-true (is_ascii_digit c)
    ] (sym (is_number-cons d text) ∙ number)

-- ---- its digits

-- the digits of base 16 stand after an ASCII byte
pub x_first : (number : List ℕ) → base_of number ≡ 16 → (0 < length number) × (get_or number 0 0 < 128) × (after_x number ≡ drop 1 number)
x_first [] base = absurd (omega arith)
x_first (d ∷ text) base =
    elim (is_x d) as (λ b. is_x d ≡ b → base_where b ≡ 16 → (0 < length (d ∷ text)) × (d < 128) × ((if b then text else d ∷ text) ≡ text)) [
      | true ↦ λ x same. (omega arith, grind (arith, nat_tests), refl)
      | false ↦ λ x same. absurd (omega arith)
    ] refl base

digit-16 : (d : ℕ) → is_ascii_hexdigit d ≡ true → digit_value d < 16
digit-16 d hex = grind (arith, nat_tests)

digit-10 : (d : ℕ) → is_ascii_digit d ≡ true → digit_value d < 10
digit-10 d dec = grind (arith, nat_tests)

digit-below : (number : List ℕ) (d : ℕ) → is_digit_of number d ≡ true → digit_value d < base_of number
digit-below [] d digit = digit-10 d digit
digit-below (c ∷ text) d digit =
    elim (is_x c) as (λ b. (if b then is_ascii_hexdigit d else is_ascii_digit d) ≡ true → digit_value d < base_where b) [
      | true ↦ λ hex. digit-16 d hex
      | false ↦ λ dec. digit-10 d dec
    ] digit

-- each digit is one of the base
pub digits-below : (number digits : List ℕ) (i : ℕ) → is_number number ≡ true → digits ≡ after_x number → i < length digits → digit_value (get_or digits i 0) < base_of number
unfolding is_number
digits-below number digits i all same within =
    elim (is_digit_of number (get_or digits i 0)) as (λ b. is_digit_of number (get_or digits i 0) ≡ b → digit_value (get_or digits i 0) < base_of number) [
      | true ↦ λ yes. digit-below number (get_or digits i 0) yes
      | false ↦ λ none. let out : list_all (is_digit_of number) digits ≡ false = list_all_at (is_digit_of number) digits i 0 within none in absurd cc
    ] refl

-- one more digit: the value up to a limit, and the last bits
limited : (value digit base limit : ℕ) → 1 ≤ base → min (min value limit * base + digit) limit ≡ min (value * base + digit) limit
limited value digit base limit low =
    elim (cases_lt limit value) [
      | inl over ↦
          let least : limit ≤ limit * base = le-mul_of_pos_right limit low in
          let more : value ≤ value * base = le-mul_of_pos_right value low in
          let cut : min value limit ≡ limit = omega arith in
          rw cut (omega arith)
      | inr within ↦ let whole : min value limit ≡ value = omega arith in rw whole refl
    ]

last_bits : (value digit base modulus : ℕ) → (value % modulus * base % modulus + digit) % modulus ≡ (value * base + digit) % modulus
last_bits value digit base modulus =
    mod-add-mod (value % modulus * base) modulus digit
    ∙ sym (mod-add-mod (value % modulus * base) modulus digit)
    ∙ ap (λ n. (n + digit) % modulus) (mul-mod_first value base modulus)
    ∙ mod-add-mod (value * base) modulus digit

pub value-more : (base : ℕ) (digits : List ℕ) (i digit limit : ℕ) → 1 ≤ base → i < length digits → digit ≡ digit_value (get_or digits i 0)
    → min (min (digits_value base (take i digits)) limit * base + digit) limit ≡ min (digits_value base (take (i + 1) digits)) limit
value-more base digits i digit limit low within is =
    limited (digits_value base (take i digits)) digit base limit low
    ∙ ap (λ n. min n limit) (ap (λ d. digits_value base (take i digits) * base + d) is ∙ sym (digits_value_more base digits i within))

pub low_bits-more : (base : ℕ) (digits : List ℕ) (i digit modulus : ℕ) → i < length digits → digit ≡ digit_value (get_or digits i 0)
    → (digits_value base (take i digits) % modulus * base % modulus + digit) % modulus ≡ digits_value base (take (i + 1) digits) % modulus
low_bits-more base digits i digit modulus within is =
    last_bits (digits_value base (take i digits)) digit base modulus
    ∙ ap (λ n. n % modulus) (ap (λ d. digits_value base (take i digits) * base + d) is ∙ sym (digits_value_more base digits i within))

digit-read : (digit : Option ℕ) (value base : ℕ) → SomeIff digit (value < base) value → value < base → unwrap_or digit 0 ≡ value
digit-read digit value base some below = grind (arith, common_steps)

-- what is read of a digit
pub digit-at : (number digits : List ℕ) (i byte : ℕ) (digit : Option ℕ) (value base : ℕ) → is_number number ≡ true → digits ≡ after_x number → i < length digits
    → byte ≡ get_or digits i 0 → base ≡ base_of number → SomeIff digit (digit_value byte < base) (digit_value byte) → value ≡ unwrap_or digit 0
    → (value ≡ digit_value (get_or digits i 0)) × (value < base)
digit-at number digits i byte digit value base all same within is based some read =
    let below : digit_value byte < base = rw (is, based) (digits-below number digits i all same within) in
    let e : value ≡ digit_value byte = read ∙ digit-read digit (digit_value byte) base some below in
    (e ∙ ap digit_value is, omega arith)

-- ---- the character of a number

-- each key of the table is a byte
lookup-past : (entries : List (ℕ × ℕ)) (number : ℕ) → list_all (λ entry. nat_lt entry.0 256) entries ≡ true → 256 ≤ number → lookup (nat_eq number) entries ≡ None
lookup-past [] number bytes past = refl
lookup-past (entry ∷ entries) number bytes past =
    let parts = and_parts (nat_lt entry.0 256) (list_all (λ e. nat_lt e.0 256) entries) bytes in
    let small : nat_lt entry.0 256 ≡ true = parts.0 in
    let other : nat_eq number entry.0 ≡ false = grind (arith, nat_tests) in
    rw other (lookup-past entries number parts.1 past)

pub character_of_c1-past : (number : ℕ) → 256 ≤ number → character_of_c1 number ≡ None
unfolding character_of_c1
character_of_c1-past number past = lookup-past c1_characters number refl past

-- from the limit on all numbers are alike
is_no_character-past : (number : ℕ) → 0x11_0000 ≤ number → is_no_character number ≡ true
unfolding is_no_character
is_no_character-past number past = grind (arith, nat_tests)

character-past : (number : ℕ) → 0x11_0000 ≤ number → character_of_number number ≡ replacement_character
unfolding character_of_number
character-past number past =
    let no : is_no_character number ≡ true = is_no_character-past number past in
    let other : (number == null) ≡ false = grind (arith, nat_tests) in
    rw (other, no) refl

is_invalid-past : (number : ℕ) → 0x11_0000 ≤ number → is_invalid_number number ≡ true
unfolding is_invalid_number
is_invalid-past number past =
    let no : is_no_character number ≡ true = is_no_character-past number past in
    let other : (number == null) ≡ false = grind (arith, nat_tests) in
    let no_return : (number == 0x000D) ≡ false = grind (arith, nat_tests) in
    rw (other, no_return, no) refl

pub character-limited : (number : ℕ) → character_of_number (min number 0x11_0000) ≡ character_of_number number
character-limited number =
    elim (cases_lt number 0x11_0000) [
      | inl within ↦ let same : min number 0x11_0000 ≡ number = omega arith in rw same refl
      | inr past ↦ character-past (min number 0x11_0000) (omega arith) ∙ sym (character-past number past)
    ]

pub is_invalid-limited : (number : ℕ) → is_invalid_number (min number 0x11_0000) ≡ is_invalid_number number
is_invalid-limited number =
    elim (cases_lt number 0x11_0000) [
      | inl within ↦ let same : min number 0x11_0000 ≡ number = omega arith in rw same refl
      | inr past ↦ is_invalid-past (min number 0x11_0000) (omega arith) ∙ sym (is_invalid-past number past)
    ]

pub invalid-last_bits : (exact : Bool) (number : ℕ) → invalid_number exact (number % 2 ^ 32) ≡ invalid_number exact number
unfolding invalid_number
invalid-last_bits exact number = rw (mod-mod number (2 ^ 32)) refl

-- a character past the table stands for itself
pub character-itself : (number : ℕ) → 256 ≤ number → is_no_character number ≡ false → character_of_number number ≡ number
unfolding character_of_number
character-itself number past some =
    let other : (number == null) ≡ false = grind (arith, nat_tests) in
    rw (other, some, character_of_c1-past number past) refl

pub is_no_character-scalar : (number : ℕ) → IsScalar number → is_no_character number ≡ false
unfolding is_no_character
is_no_character-scalar number scalar = grind (arith, nat_tests)
