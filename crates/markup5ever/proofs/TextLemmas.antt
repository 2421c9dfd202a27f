-- Texts, their bytes and their characters.
use Rattle.std.proofs.Common.{◌≡◌, ℕ, ◌+◌, ◌<◌, ◌≤◌, true, List, [], ◌∷◌, ◌++◌, length, take, drop, get_or, encode_utf8, encode_utf8_all, refl, sym, ap, ◌∙◌, inl, inr, arith, length-append}
use Rattle.std.specs.Char.{is_ascii, len_utf8}
use Rattle.std.specs.Str.{IsUtf8, chars}
use Rattle.std.proofs.lemmas.Bool.{cases_eq, ltb-true}
use Rattle.std.proofs.lemmas.List.{append_cancel_right, drop_at, take-append-drop}
use Rattle.std.proofs.lemmas.Str.{chars-append, chars_past_char, encode_ascii, encodes-chars, length-encode, IsUtf8-past_char, IsUtf8-take, IsCharBoundary-from_drop}

-- ---- texts and their characters

-- the first byte is the first character, if it is ASCII
pub begins_with_ascii : (bs : List ℕ) (b : ℕ) → 0 < length bs → b ≡ get_or bs 0 b → is_ascii b ≡ true → (rest : List ℕ) × (bs ≡ encode_utf8 b ++ rest)
begins_with_ascii [] b filled first ascii = absurd (omega (arith, filled))
begins_with_ascii (a ∷ bs) b filled first ascii = (bs, rw (first, encode_ascii a (rw first at (ltb-true b 128 ascii))) refl)

pub nil_from_length : {X : Type 0} (xs : List X) → length xs ≡ 0 → xs ≡ []
nil_from_length [] none = refl
nil_from_length (x ∷ xs) none = absurd (omega (arith, none))

pub filled_length : {X : Type 0} (xs : List X) → (xs ≡ [] → ⊥) → 0 < length xs
filled_length [] filled = absurd (filled refl)
filled_length (x ∷ xs) filled = omega arith

-- a text with a byte has a character
pub filled_chars : (bs : List ℕ) → IsUtf8 bs → 0 < length bs → 0 < length (chars bs)
filled_chars bs utf8 filled =
    elim (cases_eq (length (chars bs)) 0) [
      | inl none ↦ let no_byte : length bs ≡ 0 = ap length (sym (encodes-chars bs utf8) ∙ ap encode_utf8_all (nil_from_length (chars bs) none)) in omega arith
      | inr some ↦ omega arith
    ]

-- a text that is cut in two
pub chars_cut : (bs : List ℕ) (n : ℕ) → IsUtf8 (take n bs) → chars bs ≡ chars (take n bs) ++ chars (drop n bs)
chars_cut bs n utf8 = ap chars (sym (take-append-drop n bs)) ∙ chars-append (take n bs) (drop n bs) utf8

-- the first character, which takes this many bytes, and the text after it
pub record BeginsWith (bs : List ℕ) (c width : ℕ) : Type 0 where
  pub within : width ≤ length bs
  pub rest_utf8 : IsUtf8 (drop width bs)
  pub chars_are : chars bs ≡ c ∷ chars (drop width bs)
  pub first_is : chars (take width bs) ≡ c ∷ []

pub begins_with : (bs front rest : List ℕ) (c width : ℕ) → front ≡ bs → IsUtf8 front → front ≡ encode_utf8 c ++ rest → width ≡ len_utf8 c → BeginsWith bs c width
begins_with bs front rest c width same utf8 e measured =
    let rest_is : drop width front ≡ rest = ap (drop width) e ∙ drop_at (encode_utf8 c) rest width (length-encode c ∙ sym measured) in
    let rest_utf8 : IsUtf8 (drop width front) = rw rest_is (IsUtf8-past_char front rest c utf8 e) in
    let chars_are : chars front ≡ c ∷ chars (drop width front) = rw rest_is (chars_past_char front rest c utf8 e) in
    let rest_length : width + length rest ≡ length front = sym (ap length e ∙ length-append (encode_utf8 c) rest ∙ ap (λ n. n + length rest) (length-encode c ∙ sym measured)) in
    let front_utf8 = IsUtf8-take front width utf8 (IsCharBoundary-from_drop front width (omega (arith, rest_length)) rest_utf8) in
    let first_is : chars (take width front) ≡ c ∷ [] = append_cancel_right (chars (take width front)) (c ∷ []) (chars (drop width front)) (sym (chars_cut front width front_utf8) ∙ chars_are) in
    let within : width ≤ length front = omega (arith, rest_length) in
    record { within = rw same at within; rest_utf8 = rw same at rest_utf8; chars_are = rw same at chars_are; first_is = rw same at first_is }
