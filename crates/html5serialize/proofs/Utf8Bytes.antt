-- What holds of the bytes of a text holds of its characters.
use Rattle.std.proofs.Common.{◌≡◌, ℕ, ◌+◌, ◌/◌, ◌%◌, ◌<◌, ◌≤◌, Bool, true, false, List, [], ◌∷◌, ◌++◌, refl, ap, sym, ◌∙◌, ⊎_elim, arith}
use Rattle.std.specs.Prelude.{◌||◌, ◌&&◌, nat_eq, nat_lt, encode_utf8, encode_utf8_all}
use Rattle.std.specs.List.{list_all, starts_with}
use Rattle.std.specs.Str.{IsUtf8, chars}
use Rattle.std.proofs.lemmas.Bool.{and_parts, cases_lt}
use Rattle.std.proofs.lemmas.Bool.Decides.{nat_tests}
use Rattle.std.proofs.lemmas.List.Folds.{list_all-append}
use Rattle.std.proofs.lemmas.Str.{encode_ascii, encodes-chars}
use lib.Utf8.{encode}
use Rattle.html5grammar.specs.Comment.{occurs}

-- ---- a character that is not ASCII has bytes that are not

encode-two : (c : ℕ) → 128 ≤ c → c < 2048 → encode c ≡ (192 + c / 64) ∷ (128 + c % 64) ∷ []
unfolding encode
encode-two c high low = grind (arith, nat_tests)

encode-three : (c : ℕ) → 2048 ≤ c → c < 65536 → encode c ≡ (224 + c / 4096) ∷ (128 + (c / 64) % 64) ∷ (128 + c % 64) ∷ []
unfolding encode
encode-three c high low = grind (arith, nat_tests)

encode-four : (c : ℕ) → 65536 ≤ c → encode c ≡ (240 + c / 262144) ∷ (128 + (c / 4096) % 64) ∷ (128 + (c / 64) % 64) ∷ (128 + c % 64) ∷ []
unfolding encode
encode-four c high = grind (arith, nat_tests)

-- bytes that are not ASCII
abbrev pub AreHigh : List ℕ → Type 0
AreHigh [] = Unit {0}
AreHigh (b ∷ bytes) = 128 ≤ b × AreHigh bytes

-- the bytes of such a character
pub record High (c : ℕ) : Type 0 where
  pub first : ℕ
  pub more : List ℕ
  pub is : encode_utf8 c ≡ first ∷ more
  pub high : 128 ≤ first
  pub all : AreHigh more

pub high-encode : (c : ℕ) → 128 ≤ c → High c
high-encode c a =
    ⊎_elim
    (λ (b : c < 2048). record { first = 192 + c / 64; more = (128 + c % 64) ∷ []; is = encode-two c a b; high = omega arith; all = (omega arith, tt) })
    (λ (b : 2048 ≤ c). ⊎_elim
    (λ (d : c < 65536). record { first = 224 + c / 4096; more = (128 + (c / 64) % 64) ∷ (128 + c % 64) ∷ []; is = encode-three c b d; high = omega arith; all = (omega arith, (omega arith, tt)) })
    (λ (d : 65536 ≤ c). record { first = 240 + c / 262144; more = (128 + (c / 4096) % 64) ∷ (128 + (c / 64) % 64) ∷ (128 + c % 64) ∷ []; is = encode-four c d; high = omega arith; all = (omega arith, (omega arith, (omega arith, tt))) })
    (cases_lt c 65536))
    (cases_lt c 2048)

-- ---- tests that each character passes that is not ASCII

pub all-parts : (p : ℕ → Bool) (xs ys : List ℕ) → list_all p (xs ++ ys) ≡ true → (list_all p xs ≡ true) × (list_all p ys ≡ true)
all-parts p xs ys h = and_parts (list_all p xs) (list_all p ys) (sym (list_all-append p xs ys) ∙ h)

module _ (p : ℕ → Bool) (high : (b : ℕ) → 128 ≤ b → p b ≡ true) where
  pub all-from_encodes : (cs : List ℕ) → list_all p (encode_utf8_all cs) ≡ true → list_all p cs ≡ true
  all-from_encodes [] h = refl
  all-from_encodes (c ∷ cs) h =
      let parts = all-parts p (encode_utf8 c) (encode_utf8_all cs) h in
      let later : list_all p cs ≡ true = all-from_encodes cs parts.1 in
      ⊎_elim
      (λ (a : c < 128).
      let one = and_parts (p c) true (ap (list_all p) (sym (encode_ascii c a)) ∙ parts.0) in
      rw (one.0, later) refl)
      (λ (a : 128 ≤ c). rw (high c a, later) refl)
      (cases_lt c 128)

  -- such a test of all bytes is one of all characters
  pub all-chars : (text : List ℕ) → IsUtf8 text → list_all p text ≡ true → list_all p (chars text) ≡ true
  all-chars text utf8 h = all-from_encodes (chars text) (ap (list_all p) (encodes-chars text utf8) ∙ h)

-- ---- words in ASCII

abbrev pub is_small : List ℕ → Bool
is_small word = list_all (λ b. nat_lt b 128) word

-- no such byte is one that is not ASCII
pub other : (w b : ℕ) → nat_lt w 128 ≡ true → 128 ≤ b → nat_eq w b ≡ false
other w b small high = grind (arith, nat_tests)

pub begins-encodes : (word cs : List ℕ) → is_small word ≡ true → starts_with nat_eq (encode_utf8_all cs) word ≡ starts_with nat_eq cs word
begins-encodes [] cs small = refl
begins-encodes (w ∷ word) [] small = refl
begins-encodes (w ∷ word) (c ∷ cs) small =
    let parts = and_parts (nat_lt w 128) (is_small word) small in
    ⊎_elim
    (λ (a : c < 128).
    ap (λ l. starts_with nat_eq (l ++ encode_utf8_all cs) (w ∷ word)) (encode_ascii c a)
    ∙ ap (λ b. nat_eq w c && b) (begins-encodes word cs parts.1))
    (λ (a : 128 ≤ c).
    let h : High c = high-encode c a in
    ap (λ l. starts_with nat_eq (l ++ encode_utf8_all cs) (w ∷ word)) h.is
    ∙ rw (other w h.first parts.0 h.high, other w c parts.0 a) refl)
    (cases_lt c 128)

-- such a word stands nowhere in bytes that are not ASCII
skip-high : (w : ℕ) (word high rest : List ℕ) → nat_lt w 128 ≡ true → AreHigh high → occurs (w ∷ word) (high ++ rest) ≡ occurs (w ∷ word) rest
unfolding occurs
skip-high w word [] rest small all = refl
skip-high w word (b ∷ high) rest small all = rw (other w b small all.0) (skip-high w word high rest small all.1)

pub occurs-encodes : (w : ℕ) (word cs : List ℕ) → is_small (w ∷ word) ≡ true → occurs (w ∷ word) (encode_utf8_all cs) ≡ occurs (w ∷ word) cs
unfolding occurs
occurs-encodes w word [] small = refl
occurs-encodes w word (c ∷ cs) small =
    let parts = and_parts (nat_lt w 128) (is_small word) small in
    ⊎_elim
    (λ (a : c < 128).
    let begins = begins-encodes (w ∷ word) (c ∷ cs) small in
    ap (λ l. occurs (w ∷ word) (l ++ encode_utf8_all cs)) (encode_ascii c a)
    ∙ ap (λ b. b || occurs (w ∷ word) (encode_utf8_all cs)) (ap (λ l. starts_with nat_eq (l ++ encode_utf8_all cs) (w ∷ word)) (sym (encode_ascii c a)) ∙ begins)
    ∙ ap (λ b. starts_with nat_eq (c ∷ cs) (w ∷ word) || b) (occurs-encodes w word cs small))
    (λ (a : 128 ≤ c).
    let h : High c = high-encode c a in
    ap (λ l. occurs (w ∷ word) (l ++ encode_utf8_all cs)) h.is
    ∙ rw (other w h.first parts.0 h.high, other w c parts.0 a) (skip-high w word h.more (encode_utf8_all cs) parts.0 h.all ∙ occurs-encodes w word cs small))
    (cases_lt c 128)

pub begins-chars : (word text : List ℕ) → is_small word ≡ true → IsUtf8 text → starts_with nat_eq (chars text) word ≡ starts_with nat_eq text word
begins-chars word text small utf8 =
    sym (begins-encodes word (chars text) small) ∙ ap (λ l. starts_with nat_eq l word) (encodes-chars text utf8)

pub occurs-chars : (w : ℕ) (word text : List ℕ) → is_small (w ∷ word) ≡ true → IsUtf8 text → occurs (w ∷ word) (chars text) ≡ occurs (w ∷ word) text
occurs-chars w word text small utf8 =
    sym (occurs-encodes w word (chars text) small) ∙ ap (occurs (w ∷ word)) (encodes-chars text utf8)
