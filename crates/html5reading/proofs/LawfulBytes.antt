-- The bytes of characters: what has no NUL, and no capital.
use Rattle.std.proofs.Common.{◌≡◌, ℕ, ◌+◌, ◌/◌, ◌%◌, ◌<◌, ◌≤◌, ltb, Bool, true, false, not, List, [], ◌∷◌, ◌++◌, refl, ◌∙◌, arith}
use Rattle.std.specs.Prelude.{◌==◌, encode_utf8, flat_map}
use Rattle.std.specs.Char.{is_ascii_lowercase, is_ascii_uppercase, to_ascii_lowercase}
use Rattle.std.specs.List.{list_all}
use Rattle.std.proofs.lemmas.Bool.{and_parts, false≢true}
use Rattle.std.proofs.lemmas.Bool.Decides.{nat_tests}
use Rattle.std.proofs.lemmas.List.Folds.{list_all-append}
use Rattle.std.proofs.lemmas.Str.{encode_ascii}
use lib.Utf8.{encode}
use Rattle.html5reading.specs.Characters.{null, is_letter, shown, name_bytes}
use Rattle.html5reading.specs.Lawful.{has_no_null, has_no_capital, begins_with_letter}

pub all-append : (p : ℕ → Bool) (xs ys : List ℕ) → list_all p xs ≡ true → list_all p ys ≡ true → list_all p (xs ++ ys) ≡ true
all-append p xs ys f g = list_all-append p xs ys ∙ rw (f, g) refl

-- bytes from 128 on pass the test
module _ (p : ℕ → Bool) (high : (b : ℕ) → 128 ≤ b → p b ≡ true) where
  all-two : (a b : ℕ) → 128 ≤ a → 128 ≤ b → list_all p (a ∷ b ∷ []) ≡ true
  all-two a b f g = rw (high a f, high b g) refl

  all-three : (a b d : ℕ) → 128 ≤ a → 128 ≤ b → 128 ≤ d → list_all p (a ∷ b ∷ d ∷ []) ≡ true
  all-three a b d f g h = rw (high a f) (all-two b d g h)

  all-four : (a b d e : ℕ) → 128 ≤ a → 128 ≤ b → 128 ≤ d → 128 ≤ e → list_all p (a ∷ b ∷ d ∷ e ∷ []) ≡ true
  all-four a b d e f g h i = rw (high a f) (all-three b d e g h i)

  -- where a test passes each byte from 128 on, it passes the bytes of a character if it passes the character
  pub all-encode : (d : ℕ) → p d ≡ true → list_all p (encode d) ≡ true
  unfolding encode
  all-encode d h =
      elim (ltb d 128) as (λ a. list_all p (mathlib.Core.Bool.cond a (d ∷ []) (mathlib.Core.Bool.cond (ltb d 2048) ((192 + d / 64) ∷ (128 + d % 64) ∷ []) (mathlib.Core.Bool.cond (ltb d 65536) ((224 + d / 4096) ∷ (128 + (d / 64) % 64) ∷ (128 + d % 64) ∷ []) ((240 + d / 262144) ∷ (128 + (d / 4096) % 64) ∷ (128 + (d / 64) % 64) ∷ (128 + d % 64) ∷ [])))) ≡ true) [
        | true ↦ rw h refl
        | false ↦ elim (ltb d 2048) as (λ a. list_all p (mathlib.Core.Bool.cond a ((192 + d / 64) ∷ (128 + d % 64) ∷ []) (mathlib.Core.Bool.cond (ltb d 65536) ((224 + d / 4096) ∷ (128 + (d / 64) % 64) ∷ (128 + d % 64) ∷ []) ((240 + d / 262144) ∷ (128 + (d / 4096) % 64) ∷ (128 + (d / 64) % 64) ∷ (128 + d % 64) ∷ []))) ≡ true) [
          | true ↦ all-two (192 + d / 64) (128 + d % 64) (omega arith) (omega arith)
          | false ↦ elim (ltb d 65536) as (λ a. list_all p (mathlib.Core.Bool.cond a ((224 + d / 4096) ∷ (128 + (d / 64) % 64) ∷ (128 + d % 64) ∷ []) ((240 + d / 262144) ∷ (128 + (d / 4096) % 64) ∷ (128 + (d / 64) % 64) ∷ (128 + d % 64) ∷ [])) ≡ true) [
            | true ↦ all-three (224 + d / 4096) (128 + (d / 64) % 64) (128 + d % 64) (omega arith) (omega arith) (omega arith)
            | false ↦ all-four (240 + d / 262144) (128 + (d / 4096) % 64) (128 + (d / 64) % 64) (128 + d % 64) (omega arith) (omega arith) (omega arith) (omega arith)
          ]
        ]
      ]

-- ---- NUL

high-no_null : (b : ℕ) → 128 ≤ b → not (b == null) ≡ true
high-no_null b h = grind (arith, nat_tests)

pub no_null-encode : (c : ℕ) → (c == null) ≡ false → has_no_null (encode_utf8 c) ≡ true
unfolding has_no_null
no_null-encode c h = all-encode (λ b. not (b == null)) high-no_null c (rw h refl)

pub no_null-append : (text more : List ℕ) → has_no_null text ≡ true → has_no_null more ≡ true → has_no_null (text ++ more) ≡ true
unfolding has_no_null
no_null-append text more f g = all-append (λ b. not (b == null)) text more f g

-- ---- capitals

high-no_capital : (b : ℕ) → 128 ≤ b → not (is_ascii_uppercase b) ≡ true
high-no_capital b h = grind (arith, nat_tests)

lower-no_capital : (c : ℕ) → not (is_ascii_uppercase (to_ascii_lowercase c)) ≡ true
lower-no_capital c = grind (arith, nat_tests)

pub no_capital-name : (c : ℕ) → has_no_capital (name_bytes c) ≡ true
unfolding has_no_capital name_bytes
no_capital-name c = all-encode (λ b. not (is_ascii_uppercase b)) high-no_capital (to_ascii_lowercase (shown c)) (lower-no_capital (shown c))

pub no_capital-append : (name more : List ℕ) → has_no_capital name ≡ true → has_no_capital more ≡ true → has_no_capital (name ++ more) ≡ true
unfolding has_no_capital
no_capital-append name more f g = all-append (λ b. not (is_ascii_uppercase b)) name more f g

pub no_capital-names : (run : List ℕ) → has_no_capital (flat_map name_bytes run) ≡ true
unfolding has_no_capital
no_capital-names [] = refl
no_capital-names (c ∷ run) = no_capital-append (name_bytes c) (flat_map name_bytes run) (no_capital-name c) (no_capital-names run)

pub no_capital-more : (name run : List ℕ) → has_no_capital name ≡ true → has_no_capital (name ++ flat_map name_bytes run) ≡ true
no_capital-more name run f = no_capital-append name (flat_map name_bytes run) f (no_capital-names run)

-- ---- letters

lower-letter : (c : ℕ) → is_letter c ≡ true → is_ascii_lowercase (to_ascii_lowercase c) ≡ true
unfolding is_letter
lower-letter c h = grind (arith, nat_tests)

lower-small : (c : ℕ) → is_letter c ≡ true → to_ascii_lowercase c < 128
unfolding is_letter
lower-small c h = grind (arith, nat_tests)

letter-other : (c : ℕ) → is_letter c ≡ true → (c == null) ≡ false
unfolding is_letter
letter-other c h = grind (arith, nat_tests)

name-letter : (c : ℕ) → is_letter c ≡ true → name_bytes c ≡ to_ascii_lowercase c ∷ []
unfolding name_bytes shown
name-letter c h = rw (letter-other c h) (encode_ascii (to_ascii_lowercase c) (lower-small c h))

pub begins-letter : (c : ℕ) (more : List ℕ) → is_letter c ≡ true → begins_with_letter (name_bytes c ++ more) ≡ true
unfolding begins_with_letter
begins-letter c more h = rw (name-letter c h) (lower-letter c h)

pub begins-append : (name more : List ℕ) → begins_with_letter name ≡ true → begins_with_letter (name ++ more) ≡ true
unfolding begins_with_letter
begins-append [] more f = absurd (false≢true f)
begins-append (b ∷ name) more f = f

pub letters-no_null : (letters : List ℕ) → list_all is_letter letters ≡ true → has_no_null letters ≡ true
unfolding has_no_null
letters-no_null [] all = refl
letters-no_null (c ∷ letters) all =
    let parts = and_parts (is_letter c) (list_all is_letter letters) all in
    rw (letter-other c parts.0) (letters-no_null letters parts.1)
