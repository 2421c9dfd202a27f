-- The text of bytes up to the first error: what decoding a piece leaves of it, and that a text has no refusal in it.
use Rattle.std.proofs.Common.{true, false, ◌≡◌, ◌⊎◌, ℕ, suc, ◌+◌, ◌*◌, ◌/◌, ◌%◌, ◌<◌, ◌≤◌, List, [], ◌∷◌, ◌++◌, length, refl, sym, ap, subst, ◌∙◌, arith, ⊎_elim, append_assoc}
use Rattle.std.specs.Prelude.{Bool, encode_utf8_all, if◌then◌else◌}
use Rattle.std.specs.Char.{IsScalar, encode_utf8}
use Rattle.std.specs.Str.{IsUtf8, chars}
use lib.Utf8.{scalars, scalar_cases}
use Rattle.std.proofs.lemmas.Bool.{and_parts, cases_lt}
use Rattle.std.proofs.lemmas.Bool.Decides.{nat_tests}
use Rattle.std.proofs.lemmas.Str.{encode_ascii, encodes-append, encodes-chars, scalars-chars}
use Rattle.html5encodings.specs.declared.state.State.{State}
use Rattle.html5encodings.specs.Decoding.{HasNoError, at_end, given, given_before_error, handled, is_whole, len_before_error, returns_error, state_after, state_before_error}
use Rattle.html5encodings.proofs.BeforeErrors.{end-whole}
use Rattle.decoded_source.specs.Texts.{refusal, text_up_to_error}

-- ---- a piece

step-whole : (now : State) (byte : ℕ) (bytes rest : List ℕ) (e : Bool)
    → (if e then 0 else (suc (len_before_error (handled now byte).1 bytes))) ≡ suc (length bytes)
    → (len_before_error (handled now byte).1 bytes ≡ length bytes
    → text_up_to_error (handled now byte).1 (bytes ++ rest)
    ≡ encode_utf8_all (given_before_error (handled now byte).1 bytes) ++ text_up_to_error (state_before_error (handled now byte).1 bytes) rest)
    → (if e then refusal else (encode_utf8_all (handled now byte).0 ++ text_up_to_error (handled now byte).1 (bytes ++ rest)))
    ≡ encode_utf8_all (if e then [] else ((handled now byte).0 ++ given_before_error (handled now byte).1 bytes))
    ++ text_up_to_error (if e then now else (state_before_error (handled now byte).1 bytes)) rest
step-whole now byte bytes rest true all later = absurd (omega arith)
step-whole now byte bytes rest false all later =
    let front = (handled now byte).0 in
    let more = given_before_error (handled now byte).1 bytes in
    let after = text_up_to_error (state_before_error (handled now byte).1 bytes) rest in
    ap (λ l. encode_utf8_all front ++ l) (later (omega arith))
    ∙ sym (append_assoc (encode_utf8_all front) (encode_utf8_all more) after)
    ∙ ap (λ l. l ++ after) (sym (encodes-append front more))

-- no byte of it is an error
pub text-whole_piece : (now : State) (front rest : List ℕ) → len_before_error now front ≡ length front
    → text_up_to_error now (front ++ rest) ≡ encode_utf8_all (given_before_error now front) ++ text_up_to_error (state_before_error now front) rest
text-whole_piece now [] rest all = refl
text-whole_piece now (byte ∷ bytes) rest all =
    step-whole now byte bytes rest (returns_error now byte) all (text-whole_piece (handled now byte).1 bytes rest)

step-error : (now : State) (byte : ℕ) (bytes rest : List ℕ) (e : Bool)
    → (if e then 0 else (suc (len_before_error (handled now byte).1 bytes))) < suc (length bytes)
    → (len_before_error (handled now byte).1 bytes < length bytes
    → text_up_to_error (handled now byte).1 (bytes ++ rest) ≡ encode_utf8_all (given_before_error (handled now byte).1 bytes) ++ refusal)
    → (if e then refusal else (encode_utf8_all (handled now byte).0 ++ text_up_to_error (handled now byte).1 (bytes ++ rest)))
    ≡ encode_utf8_all (if e then [] else ((handled now byte).0 ++ given_before_error (handled now byte).1 bytes)) ++ refusal
step-error now byte bytes rest true some later = refl
step-error now byte bytes rest false some later =
    let front = (handled now byte).0 in
    let more = given_before_error (handled now byte).1 bytes in
    ap (λ l. encode_utf8_all front ++ l) (later (omega arith))
    ∙ sym (append_assoc (encode_utf8_all front) (encode_utf8_all more) refusal)
    ∙ ap (λ l. l ++ refusal) (sym (encodes-append front more))

-- one is
pub text-failed_piece : (now : State) (front rest : List ℕ) → len_before_error now front < length front
    → text_up_to_error now (front ++ rest) ≡ encode_utf8_all (given_before_error now front) ++ refusal
text-failed_piece now [] rest some = absurd (omega arith)
text-failed_piece now (byte ∷ bytes) rest some =
    step-error now byte bytes rest (returns_error now byte) some (text-failed_piece (handled now byte).1 bytes rest)

-- ---- no text has a refusal in it

-- each byte is one that text may have
abbrev Low : List ℕ → Type 0
Low [] = Unit {0}
Low (byte ∷ bytes) = (byte < 255) × Low bytes

low-append : (xs ys : List ℕ) → Low xs → Low ys → Low (xs ++ ys)
low-append [] ys first second = second
low-append (x ∷ xs) ys first second = (first.0, low-append xs ys first.1 second)

low-rest : (xs ys : List ℕ) → Low (xs ++ ys) → Low ys
low-rest [] ys all = all
low-rest (x ∷ xs) ys all = low-rest xs ys all.1

encode-two : (c : ℕ) → 128 ≤ c → c < 2048 → encode_utf8 c ≡ (192 + c / 64) ∷ (128 + c % 64) ∷ []
unfolding encode_utf8
encode-two c high low = grind (arith, nat_tests)

encode-three : (c : ℕ) → 2048 ≤ c → c < 65536 → encode_utf8 c ≡ (224 + c / 4096) ∷ (128 + (c / 64) % 64) ∷ (128 + c % 64) ∷ []
unfolding encode_utf8
encode-three c high low = grind (arith, nat_tests)

encode-four : (c : ℕ) → 65536 ≤ c → encode_utf8 c ≡ (240 + c / 262144) ∷ (128 + (c / 4096) % 64) ∷ (128 + (c / 64) % 64) ∷ (128 + c % 64) ∷ []
unfolding encode_utf8
encode-four c high = grind (arith, nat_tests)

low-encode : (c : ℕ) → IsScalar c → Low (encode_utf8 c)
low-encode c scalar =
    let range = scalar_cases c scalar in
    ⊎_elim
    (λ (a : c < 128). subst Low (sym (encode_ascii c a)) (omega arith, tt))
    (λ (a : 128 ≤ c). ⊎_elim
    (λ (b : c < 2048). subst Low (sym (encode-two c a b)) (omega arith, (omega arith, tt)))
    (λ (b : 2048 ≤ c). ⊎_elim
    (λ (d : c < 65536). subst Low (sym (encode-three c b d)) (omega arith, (omega arith, (omega arith, tt))))
    (λ (d : 65536 ≤ c).
    let top : c < 1114112 = ⊎_elim (λ l. omega arith) (λ r. r.1) range in
    subst Low (sym (encode-four c d)) (omega arith, (omega arith, (omega arith, (omega arith, tt)))))
    (cases_lt c 65536))
    (cases_lt c 2048))
    (cases_lt c 128)

low-encodes : (cs : List ℕ) → scalars cs ≡ true → Low (encode_utf8_all cs)
low-encodes [] all = tt
low-encodes (c ∷ cs) all =
    let parts = and_parts _ _ all in
    low-append (encode_utf8 c) (encode_utf8_all cs) (low-encode c parts.0) (low-encodes cs parts.1)

low-text : (text : List ℕ) → IsUtf8 text → Low text
low-text text utf8 = subst Low (encodes-chars text utf8) (low-encodes (chars text) (scalars-chars text utf8))

-- ---- so where the text of bytes is text, there is no error in them

-- bytes have no error in them, and the text up to the first error is that of all
pub record IsSound (now : State) (bytes : List ℕ) : Type 0 where
  pub no_error : HasNoError now bytes
  pub text : text_up_to_error now bytes ≡ encode_utf8_all (given now bytes ++ at_end (state_after now bytes))

sound-end : (now : State) (whole : Bool) → is_whole now ≡ whole → Low (if whole then [] else refusal)
    → (is_whole now ≡ true) × ((if whole then [] else refusal) ≡ encode_utf8_all (at_end now))
sound-end now true is low = (is, ap encode_utf8_all (sym (end-whole now is)))
sound-end now false is low = absurd (omega (arith, low.0))

sound-step : (now : State) (byte : ℕ) (bytes : List ℕ) (e : Bool) → returns_error now byte ≡ e
    → Low (if e then refusal else (encode_utf8_all (handled now byte).0 ++ text_up_to_error (handled now byte).1 bytes))
    → (Low (text_up_to_error (handled now byte).1 bytes) → IsSound (handled now byte).1 bytes)
    → (returns_error now byte ≡ false) × HasNoError (handled now byte).1 bytes
    × ((if e then refusal else (encode_utf8_all (handled now byte).0 ++ text_up_to_error (handled now byte).1 bytes))
    ≡ encode_utf8_all (((handled now byte).0 ++ given (handled now byte).1 bytes) ++ at_end (state_after (handled now byte).1 bytes)))
sound-step now byte bytes true is low later = absurd (omega (arith, low.0))
sound-step now byte bytes false is low later =
    let front = (handled now byte).0 in
    let more = given (handled now byte).1 bytes in
    let last = at_end (state_after (handled now byte).1 bytes) in
    let rest = later (low-rest (encode_utf8_all front) (text_up_to_error (handled now byte).1 bytes) low) in (
      is,
      rest.no_error,
      ap (λ l. encode_utf8_all front ++ l) rest.text
          ∙ sym (encodes-append front (more ++ last))
          ∙ ap encode_utf8_all (sym (append_assoc front more last)),
    )

sound-low : (now : State) (bytes : List ℕ) → Low (text_up_to_error now bytes) → IsSound now bytes
sound-low now [] low = let parts = sound-end now (is_whole now) refl low in record { no_error = parts.0; text = parts.1 }
sound-low now (byte ∷ bytes) low =
    let parts = sound-step now byte bytes (returns_error now byte) refl low (sound-low (handled now byte).1 bytes) in
    record { no_error = (parts.0, parts.1); text = parts.2 }

pub sound : (now : State) (bytes : List ℕ) → IsUtf8 (text_up_to_error now bytes) → IsSound now bytes
sound now bytes utf8 = sound-low now bytes (low-text (text_up_to_error now bytes) utf8)
