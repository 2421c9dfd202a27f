-- The characters of an encoded text are the text, also where its numbers are no scalar values.
use Rattle.std.proofs.Common.{◌≡◌, ℕ, zero, suc, ◌+◌, ◌-◌, ◌*◌, ◌/◌, ◌<◌, ◌≤◌, List, [], ◌∷◌, ◌++◌, refl, sym, ap, ◌∙◌, arith}
use Rattle.std.specs.Prelude.{Bool, true, false, cond, nat_lt, encode_utf8, encode_utf8_all}
use Rattle.std.specs.Str.{chars, chars_after, continuation_len, lead_bits}
use Rattle.std.proofs.lemmas.Bool.Decides.{nat_tests}
use lib.Utf8.{encode, next}

-- after the last byte of a character
after-last : (c : ℕ) (bytes : List ℕ) → chars_after zero c bytes ≡ c ∷ chars bytes
unfolding chars
after-last c [] = refl
after-last c (b ∷ bytes) = refl

led : (byte n bits : ℕ) (bytes : List ℕ) → n ≡ continuation_len byte → bits ≡ lead_bits byte → chars (byte ∷ bytes) ≡ chars_after n bits bytes
unfolding chars
led byte n bits bytes p q = λ i. chars_after (sym p i) (sym q i) bytes

of-one : (c : ℕ) (rest : List ℕ) → c < 128 → chars (c ∷ rest) ≡ c ∷ chars rest
of-one c rest h = led c zero c rest (grind arith) (grind arith) ∙ after-last c rest

of-two : (c a b : ℕ) (rest : List ℕ) → 192 ≤ a → a < 224 → 128 ≤ b → c + 12416 ≡ a * 64 + b → chars (a ∷ b ∷ rest) ≡ c ∷ chars rest
of-two c a b rest l h f s =
    let is : (a - 192) * 64 + (b - 128) ≡ c = omega arith in
    led a (suc zero) (a - 192) (b ∷ rest) (grind arith) (grind arith) ∙ after-last _ rest ∙ ap (λ x. x ∷ chars rest) is

of-three : (c a b d : ℕ) (rest : List ℕ) → 224 ≤ a → a < 240 → 128 ≤ b → 128 ≤ d → c + 925824 ≡ a * 4096 + b * 64 + d → chars (a ∷ b ∷ d ∷ rest) ≡ c ∷ chars rest
of-three c a b d rest l h f g s =
    let is : ((a - 224) * 64 + (b - 128)) * 64 + (d - 128) ≡ c = omega arith in
    led a (suc (suc zero)) (a - 224) (b ∷ d ∷ rest) (grind arith) (grind arith) ∙ after-last _ rest ∙ ap (λ x. x ∷ chars rest) is

of-four : (c a b d x : ℕ) (rest : List ℕ) → 240 ≤ a → 128 ≤ b → 128 ≤ d → 128 ≤ x → c + 63447168 ≡ a * 262144 + b * 4096 + d * 64 + x
    → chars (a ∷ b ∷ d ∷ x ∷ rest) ≡ c ∷ chars rest
of-four c a b d x rest l f g k s =
    let is : (((a - 240) * 64 + (b - 128)) * 64 + (d - 128)) * 64 + (x - 128) ≡ c = omega arith in
    led a (suc (suc (suc zero))) (a - 240) (b ∷ d ∷ x ∷ rest) (grind arith) (grind arith) ∙ after-last _ rest ∙ ap (λ y. y ∷ chars rest) is

-- by the length of the encoded character
chars-by_len : (c : ℕ) (rest : List ℕ) (one two three : Bool) → nat_lt c 128 ≡ one → nat_lt c 2048 ≡ two → nat_lt c 65536 ≡ three
    → chars (cond one (c ∷ []) (cond two ((192 + c / 64) ∷ next c ∷ []) (cond three ((224 + c / 4096) ∷ next (c / 64) ∷ next c ∷ []) ((240 + c / 262144) ∷ next (c / 4096) ∷ next (c / 64) ∷ next c ∷ []))) ++ rest)
    ≡ c ∷ chars rest
chars-by_len c rest true two three p q r = of-one c rest (grind (arith, nat_tests))
chars-by_len c rest false true three p q r =
    let low : 128 ≤ c = grind (arith, nat_tests) in
    let high : c < 2048 = grind (arith, nat_tests) in
    of-two c (192 + c / 64) (next c) rest (omega arith) (omega arith) (omega arith) (omega arith)
chars-by_len c rest false false true p q r =
    let low : 2048 ≤ c = grind (arith, nat_tests) in
    let high : c < 65536 = grind (arith, nat_tests) in
    of-three c (224 + c / 4096) (next (c / 64)) (next c) rest (omega arith) (omega arith) (omega arith) (omega arith) (omega arith)
chars-by_len c rest false false false p q r =
    let low : 65536 ≤ c = grind (arith, nat_tests) in
    of-four c (240 + c / 262144) (next (c / 4096)) (next (c / 64)) (next c) rest (omega arith) (omega arith) (omega arith) (omega arith) (omega arith)

chars-front : (c : ℕ) (rest : List ℕ) → chars (encode_utf8 c ++ rest) ≡ c ∷ chars rest
unfolding encode
chars-front c rest = chars-by_len c rest (nat_lt c 128) (nat_lt c 2048) (nat_lt c 65536) refl refl refl

pub chars-encoded : (text : List ℕ) → chars (encode_utf8_all text) ≡ text
unfolding chars
chars-encoded [] = refl
chars-encoded (c ∷ text) = chars-front c (encode_utf8_all text) ∙ ap (λ l. c ∷ l) (chars-encoded text)
