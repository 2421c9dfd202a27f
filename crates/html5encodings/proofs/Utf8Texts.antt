-- Text in UTF-8 decodes to itself.
use Rattle.std.proofs.Common.{true, ◌≡◌, ◌⊎◌, ℕ, ◌+◌, ◌*◌, ◌/◌, ◌%◌, ◌<◌, ◌≤◌, List, [], ◌∷◌, ◌++◌, None, Some, refl, sym, ap, subst, ◌∙◌, arith, inl, inr, ⊎_elim, append_assoc}
use Rattle.std.specs.Prelude.{Option, encode_utf8_all, if◌then◌else◌, ◌==◌}
use Rattle.std.specs.Char.{IsScalar, encode_utf8}
use lib.Utf8.{scalars, scalar_cases}
use Rattle.std.proofs.lemmas.Bool.{and_parts, cases_lt}
use Rattle.std.proofs.lemmas.Bool.Decides.{nat_tests}
use Rattle.std.proofs.lemmas.Str.{encode_ascii}
use Rattle.html5encodings.specs.declared.state.State.{State}
use Rattle.html5encodings.specs.declared.state.State.TheVariants as state
use Rattle.html5encodings.specs.declared.utf8.Partial.{Partial}
use Rattle.html5encodings.specs.Decoding.{given, handled, state_after}
use Rattle.html5encodings.specs.Utf8 as utf8

abbrev one : ℕ → Partial
one c = record { code_point = c / 64; needed = 1; lower = 0x80; upper = 0xBF }

abbrev two : ℕ → Partial
two c = record { code_point = c / 4096; needed = 2; lower = if 224 + c / 4096 == 0xE0 then 0xA0 else 0x80; upper = if 224 + c / 4096 == 0xED then 0x9F else 0xBF }

abbrev two_of_four : ℕ → Partial
two_of_four c = record { code_point = c / 4096; needed = 2; lower = 0x80; upper = 0xBF }

abbrev three : ℕ → Partial
three c = record { code_point = c / 262144; needed = 3; lower = if 240 + c / 262144 == 0xF0 then 0x90 else 0x80; upper = if 240 + c / 262144 == 0xF4 then 0x8F else 0xBF }

start-one : (c : ℕ) → c < 128 → utf8.alone c ≡ (c ∷ [], None)
start-one c low = grind (arith, nat_tests)

start-two : (c : ℕ) → 128 ≤ c → c < 2048 → utf8.alone (192 + c / 64) ≡ ([], Some (one c))
start-two c high low = grind (arith, nat_tests)

last : (c : ℕ) → utf8.handled (Some (one c)) (128 + c % 64) ≡ (c ∷ [], None)
last c = grind (arith, nat_tests)

start-three : (c : ℕ) → 2048 ≤ c → c < 65536 → utf8.alone (224 + c / 4096) ≡ ([], Some (two c))
start-three c high low = grind (arith, nat_tests)

start-four : (c : ℕ) → 65536 ≤ c → c < 1114112 → utf8.alone (240 + c / 262144) ≡ ([], Some (three c))
start-four c high low = grind (arith, nat_tests)

joins : (c : ℕ) → c / 4096 * 64 + (c / 64) % 64 ≡ c / 64
joins c = omega arith

middle-three : (c : ℕ) → 2048 ≤ c → c < 65536 → (c < 55296) ⊎ (57344 ≤ c) → utf8.handled (Some (two c)) (128 + (c / 64) % 64) ≡ ([], Some (one c))
middle-three c high low scalar = grind (arith, nat_tests, joins)

middle-four : (c : ℕ) → utf8.handled (Some (two_of_four c)) (128 + (c / 64) % 64) ≡ ([], Some (one c))
middle-four c = grind (arith, nat_tests, joins)

joins-four : (c : ℕ) → c / 262144 * 64 + (c / 4096) % 64 ≡ c / 4096
joins-four c = omega arith

second-four : (c : ℕ) → 65536 ≤ c → c < 1114112 → utf8.handled (Some (three c)) (128 + (c / 4096) % 64) ≡ ([], Some (two_of_four c))
second-four c high low = grind (arith, nat_tests, joins-four)

encode-two : (c : ℕ) → 128 ≤ c → c < 2048 → encode_utf8 c ≡ (192 + c / 64) ∷ (128 + c % 64) ∷ []
unfolding encode_utf8
encode-two c high low = grind (arith, nat_tests)

encode-three : (c : ℕ) → 2048 ≤ c → c < 65536 → encode_utf8 c ≡ (224 + c / 4096) ∷ (128 + (c / 64) % 64) ∷ (128 + c % 64) ∷ []
unfolding encode_utf8
encode-three c high low = grind (arith, nat_tests)

encode-four : (c : ℕ) → 65536 ≤ c → encode_utf8 c ≡ (240 + c / 262144) ∷ (128 + (c / 4096) % 64) ∷ (128 + (c / 64) % 64) ∷ (128 + c % 64) ∷ []
unfolding encode_utf8
encode-four c high = grind (arith, nat_tests)

-- the decoder with a part of a character or none
abbrev with_part : Option Partial → State
with_part part = state.Utf8 part

-- bytes that give a character and leave nothing
abbrev Spells : List ℕ → ℕ → Type 0
Spells front c = (bs : List ℕ) → (given (with_part None) (front ++ bs) ≡ c ∷ given (with_part None) bs)
    × (state_after (with_part None) (front ++ bs) ≡ state_after (with_part None) bs)

given-step : (part : Option Partial) (x : ℕ) (bs : List ℕ) (h : utf8.Handled) → utf8.handled part x ≡ h → given (with_part part) (x ∷ bs) ≡ h.0 ++ given (with_part h.1) bs
unfolding handled
given-step part x bs h is = ap (λ (h : utf8.Handled). h.0 ++ given (with_part h.1) bs) is

leaves-step : (part : Option Partial) (x : ℕ) (bs : List ℕ) (h : utf8.Handled) → utf8.handled part x ≡ h → state_after (with_part part) (x ∷ bs) ≡ state_after (with_part h.1) bs
unfolding handled
leaves-step part x bs h is = ap (λ (h : utf8.Handled). state_after (with_part h.1) bs) is

spells-one : (c : ℕ) → c < 128 → Spells (c ∷ []) c
spells-one c low bs = (given-step None c bs _ (start-one c low), leaves-step None c bs _ (start-one c low))

spells-two : (c : ℕ) → 128 ≤ c → c < 2048 → Spells ((192 + c / 64) ∷ (128 + c % 64) ∷ []) c
spells-two c high low bs =
    let y = 128 + c % 64 in (
      given-step None (192 + c / 64) (y ∷ bs) _ (start-two c high low) ∙ given-step (Some (one c)) y bs _ (last c),
      leaves-step None (192 + c / 64) (y ∷ bs) _ (start-two c high low) ∙ leaves-step (Some (one c)) y bs _ (last c),
    )

spells-three : (c : ℕ) → 2048 ≤ c → c < 65536 → (c < 55296) ⊎ (57344 ≤ c) → Spells ((224 + c / 4096) ∷ (128 + (c / 64) % 64) ∷ (128 + c % 64) ∷ []) c
spells-three c high low scalar bs =
    let x = 224 + c / 4096 in
    let y = 128 + (c / 64) % 64 in
    let z = 128 + c % 64 in (
      given-step None x (y ∷ z ∷ bs) _ (start-three c high low) ∙ given-step (Some (two c)) y (z ∷ bs) _ (middle-three c high low scalar)
          ∙ given-step (Some (one c)) z bs _ (last c),
      leaves-step None x (y ∷ z ∷ bs) _ (start-three c high low) ∙ leaves-step (Some (two c)) y (z ∷ bs) _ (middle-three c high low scalar)
          ∙ leaves-step (Some (one c)) z bs _ (last c),
    )

spells-four : (c : ℕ) → 65536 ≤ c → c < 1114112 → Spells ((240 + c / 262144) ∷ (128 + (c / 4096) % 64) ∷ (128 + (c / 64) % 64) ∷ (128 + c % 64) ∷ []) c
spells-four c high low bs =
    let w = 240 + c / 262144 in
    let x = 128 + (c / 4096) % 64 in
    let y = 128 + (c / 64) % 64 in
    let z = 128 + c % 64 in (
      given-step None w (x ∷ y ∷ z ∷ bs) _ (start-four c high low) ∙ given-step (Some (three c)) x (y ∷ z ∷ bs) _ (second-four c high low)
          ∙ given-step (Some (two_of_four c)) y (z ∷ bs) _ (middle-four c) ∙ given-step (Some (one c)) z bs _ (last c),
      leaves-step None w (x ∷ y ∷ z ∷ bs) _ (start-four c high low) ∙ leaves-step (Some (three c)) x (y ∷ z ∷ bs) _ (second-four c high low)
          ∙ leaves-step (Some (two_of_four c)) y (z ∷ bs) _ (middle-four c) ∙ leaves-step (Some (one c)) z bs _ (last c),
    )

spells : (c : ℕ) → IsScalar c → Spells (encode_utf8 c) c
spells c scalar =
    let range = scalar_cases c scalar in
    ⊎_elim
    (λ (a : c < 128). subst (λ e. Spells e c) (sym (encode_ascii c a)) (spells-one c a))
    (λ (a : 128 ≤ c). ⊎_elim
    (λ (b : c < 2048). subst (λ e. Spells e c) (sym (encode-two c a b)) (spells-two c a b))
    (λ (b : 2048 ≤ c). ⊎_elim
    (λ (d : c < 65536). subst (λ e. Spells e c) (sym (encode-three c b d)) (spells-three c b d (⊎_elim (λ l. inl l) (λ r. inr r.0) range)))
    (λ (d : 65536 ≤ c).
    let top : c < 1114112 = ⊎_elim (λ l. omega arith) (λ r. r.1) range in
    subst (λ e. Spells e c) (sym (encode-four c d)) (spells-four c d top))
    (cases_lt c 65536))
    (cases_lt c 2048))
    (cases_lt c 128)

-- text gives its characters and leaves nothing, whatever follows
pub given-text : (cs later : List ℕ) → scalars cs ≡ true
    → (given (with_part None) (encode_utf8_all cs ++ later) ≡ cs ++ given (with_part None) later)
    × (state_after (with_part None) (encode_utf8_all cs ++ later) ≡ state_after (with_part None) later)
given-text [] later all = (refl, refl)
given-text (c ∷ cs) later all =
    let parts = and_parts _ _ all in
    let whole = append_assoc (encode_utf8 c) (encode_utf8_all cs) later in
    let first = spells c parts.0 (encode_utf8_all cs ++ later) in
    let rest = given-text cs later parts.1 in
    (ap (given (with_part None)) whole ∙ first.0 ∙ ap (λ t. c ∷ t) rest.0, ap (state_after (with_part None)) whole ∙ first.1 ∙ rest.1)
