-- Characters that are cut, and what std says of bytes that no character begins.
use Rattle.std.proofs.Common.{◌≡◌, ℕ, ◌+◌, ◌-◌, ◌*◌, ◌<◌, ◌≤◌, Bool, true, false, cond, List, [], ◌∷◌, ◌++◌, length, take, drop, Option, None, Some, refl, sym, ◌∙◌, ap, subst, arith, inl, inr, append-nil, append_assoc, take-append-drop, length-append}
use Rattle.std.specs.Prelude.{◌==◌, nat_lt, IsUtf8, encode_utf8_all}
use Rattle.std.specs.Char.{IsScalar, encode_utf8}
use Rattle.std.specs.Int.{is_in_range}
use Rattle.std.specs.Str.{StartsWithNoChar}
use Rattle.std.specs.Str.Lossy.{utf8_error_len, second_byte_min, second_byte_max}
use Rattle.std.proofs.lemmas.Bool.{and_parts, le-ltb, lt-ltb, ne_eqb}
use Rattle.std.proofs.lemmas.Bool.Decides.{nat_tests, leb_tells, eqb_tells}
use Rattle.std.proofs.lemmas.List.{take_at, take-append-le, length-take-le}
use Rattle.std.proofs.lemmas.Str.{length-encode, len_utf8_bounds, encode_same}
use lib.Utf8.{scalars}
use Rattle.utf8_pieces.specs.Pieces.{IsCutCharacter}

-- ---- the character that some bytes are

abbrev Spells : List ℕ → Type 0
Spells bytes = (c : ℕ) × IsScalar c × (encode_utf8 c ≡ bytes)

spells_two : (a b : ℕ) → 0xC2 ≤ a → a < 0xE0 → 0x80 ≤ b → b < 0xC0 → Spells (a ∷ b ∷ [])
unfolding encode_utf8
spells_two a b h1 h2 h3 h4 =
    let c = (a - 192) * 64 + (b - 128) in
    (c, grind (arith, nat_tests), rw (le-ltb c 128 (omega arith), lt-ltb c 2048 (omega arith)) (grind arith))

-- the second byte may follow the first
abbrev Follows : ℕ → ℕ → Type 0
Follows a b = is_in_range (second_byte_min a) (second_byte_max a) b ≡ true

spells_three : (a b x : ℕ) → 0xE0 ≤ a → a < 0xF0 → Follows a b → 0x80 ≤ x → x < 0xC0 → Spells (a ∷ b ∷ x ∷ [])
unfolding encode_utf8
spells_three a b x h1 h2 follows h3 h4 =
    let c = (a - 224) * 4096 + (b - 128) * 64 + (x - 128) in
    let range : (128 ≤ b) × (b < 192) × (2048 ≤ c) × IsScalar c = grind (arith, nat_tests) in
    (c, range.3, rw (le-ltb c 128 (omega arith), le-ltb c 2048 range.2, lt-ltb c 65536 (omega arith)) (grind arith))

spells_four : (a b x y : ℕ) → 0xF0 ≤ a → a ≤ 0xF4 → Follows a b → 0x80 ≤ x → x < 0xC0 → 0x80 ≤ y → y < 0xC0 → Spells (a ∷ b ∷ x ∷ y ∷ [])
unfolding encode_utf8
spells_four a b x y h1 h2 follows h3 h4 h5 h6 =
    let c = (a - 240) * 262144 + (b - 128) * 4096 + (x - 128) * 64 + (y - 128) in
    let range : (128 ≤ b) × (b < 192) × (65536 ≤ c) × IsScalar c = grind (arith, nat_tests) in
    (c, range.3, rw (le-ltb c 128 (omega arith), le-ltb c 2048 (omega arith), le-ltb c 65536 range.2) (grind arith))

-- ---- bytes that can go on to be a character

cut_by : (bytes : List ℕ) (b : ℕ) (rest : List ℕ) → Spells (bytes ++ b ∷ rest) → IsCutCharacter bytes
cut_by bytes b rest spells = record { character = spells.0; rest = b ∷ rest; scalar = spells.1; some = omega arith; whole = spells.2 }

cut_two : (a b : ℕ) → 0xE0 ≤ a → a ≤ 0xF4 → Follows a b → IsCutCharacter (a ∷ b ∷ [])
cut_two a b low high follows =
    elim (leb_tells 0xF0 a) [
      | inl p ↦ cut_by (a ∷ b ∷ []) 128 (128 ∷ []) (spells_four a b 128 128 p.1 high follows (omega arith) (omega arith) (omega arith) (omega arith))
      | inr p ↦ cut_by (a ∷ b ∷ []) 128 [] (spells_three a b 128 low p.1 follows (omega arith) (omega arith))
    ]

least_follows : (a : ℕ) → Follows a (second_byte_min a)
least_follows a = grind (arith, nat_tests)

cut_one : (a : ℕ) → 0xC2 ≤ a → a ≤ 0xF4 → IsCutCharacter (a ∷ [])
cut_one a low high =
    let b = second_byte_min a in
    elim (leb_tells 0xF0 a) [
      | inl p ↦ cut_by (a ∷ []) b (128 ∷ 128 ∷ []) (spells_four a b 128 128 p.1 high (least_follows a) (omega arith) (omega arith) (omega arith) (omega arith))
      | inr p ↦ elim (leb_tells 0xE0 a) [
        | inl q ↦ cut_by (a ∷ []) b (128 ∷ []) (spells_three a b 128 q.1 p.1 (least_follows a) (omega arith) (omega arith))
        | inr q ↦ cut_by (a ∷ []) 128 [] (spells_two a 128 low q.1 (omega arith) (omega arith))
      ]
    ]

cut_three : (a b x : ℕ) → 0xF0 ≤ a → a ≤ 0xF4 → Follows a b → 0x80 ≤ x → x < 0xC0 → IsCutCharacter (a ∷ b ∷ x ∷ [])
cut_three a b x low high follows h3 h4 =
    cut_by (a ∷ b ∷ x ∷ []) 128 [] (spells_four a b x 128 low high follows h3 h4 (omega arith) (omega arith))

-- ---- no length of a fault: the bytes end within a character

ends_after_one : (r : Bool) → cond {A = Option ℕ} r None (Some 1) ≡ None → r ≡ true
ends_after_one true e = refl
ends_after_one false e = absurd (cc e)

ends_after_two : (r s : Bool) → cond {A = Option ℕ} r (cond s None (Some 1)) (Some 1) ≡ None → (r ≡ true) × (s ≡ true)
ends_after_two true true e = (refl, refl)
ends_after_two true false e = absurd (cc e)
ends_after_two false s e = absurd (cc e)

ends_after_three : (r s t : Bool) → cond {A = Option ℕ} r (cond s (cond t None (Some 2)) (Some 1)) (Some 1) ≡ None → (r ≡ true) × (s ≡ true) × (t ≡ true)
ends_after_three true true true e = (refl, refl, refl)
ends_after_three true true false e = absurd (cc e)
ends_after_three true false t e = absurd (cc e)
ends_after_three false s t e = absurd (cc e)

never_open : (r s t : Bool) → cond {A = Option ℕ} r (cond s (cond t (Some 3) (Some 2)) (Some 1)) (Some 1) ≡ None → ⊥
never_open true true true e = cc e
never_open true true false e = cc e
never_open true false t e = cc e
never_open false s t e = cc e

-- four bytes are never too few
never_open_of : (n : ℕ) (r s t : Bool) → 4 ≤ n
    → cond {A = Option ℕ} (n == 0) None (cond r (cond (nat_lt n 2) None (cond s (cond (nat_lt n 3) None (cond t (cond (nat_lt n 4) None (Some 3)) (Some 2))) (Some 1))) (Some 1)) ≡ None
    → ⊥
never_open_of n r s t long e =
    never_open r s t (rw (ne_eqb n 0 (omega arith), le-ltb n 2 (omega arith), le-ltb n 3 (omega arith), le-ltb n 4 (omega arith)) at e)

first_range : (a : ℕ) → is_in_range 0xC2 0xF4 a ≡ true → (0xC2 ≤ a) × (a ≤ 0xF4)
first_range a h = (grind (arith, nat_tests), grind (arith, nat_tests))

second_range : (a b : ℕ) → Follows a b → (0x80 ≤ b) × (b < 0xC0)
second_range a b h = (grind (arith, nat_tests), grind (arith, nat_tests))

later_range : (x : ℕ) → is_in_range 0x80 0xBF x ≡ true → (0x80 ≤ x) × (x < 0xC0)
later_range x h = (grind (arith, nat_tests), grind (arith, nat_tests))

not_spelt : (bytes : List ℕ) → StartsWithNoChar bytes → ¬ (Spells bytes)
not_spelt bytes none spells = none spells.0 [] spells.1 (sym spells.2 ∙ sym (append-nil (encode_utf8 spells.0)))

two_bytes : (a b : ℕ) → StartsWithNoChar (a ∷ b ∷ []) → (0xC2 ≤ a) × (a ≤ 0xF4) → Follows a b → IsCutCharacter (a ∷ b ∷ [])
two_bytes a b none range follows =
    let second = second_range a b follows in
    elim (leb_tells 0xE0 a) [
      | inl p ↦ cut_two a b p.1 range.1 follows
      | inr p ↦ absurd (not_spelt (a ∷ b ∷ []) none (spells_two a b range.0 p.1 second.0 second.1))
    ]

-- three bytes that begin a character of four are a cut character
three_bytes : (a b x : ℕ) → StartsWithNoChar (a ∷ b ∷ x ∷ []) → (0xC2 ≤ a) × (a ≤ 0xF4) → Follows a b → (0x80 ≤ x) × (x < 0xC0)
    → IsCutCharacter (a ∷ b ∷ x ∷ [])
three_bytes a b x none range follows third =
    let second = second_range a b follows in
    elim (leb_tells 0xF0 a) [
      | inl p ↦ cut_three a b x p.1 range.1 follows third.0 third.1
      | inr p ↦ elim (leb_tells 0xE0 a) [
        | inl q ↦ absurd (not_spelt (a ∷ b ∷ x ∷ []) none (spells_three a b x q.1 p.1 follows third.0 third.1))
        | inr q ↦
            let two = spells_two a b range.0 q.1 second.0 second.1 in
            absurd (none two.0 (x ∷ []) two.1 (ap (λ t. t ++ x ∷ []) (sym two.2)))
      ]
    ]

-- bytes that are no character, and no fault yet, are a cut character
pub IsCutCharacter-no_fault : (bytes : List ℕ) → 0 < length bytes → StartsWithNoChar bytes → utf8_error_len bytes ≡ None → IsCutCharacter bytes
unfolding utf8_error_len
IsCutCharacter-no_fault [] some none open_end = absurd (omega arith)
IsCutCharacter-no_fault (a ∷ []) some none open_end =
    let range = first_range a (ends_after_one (is_in_range 0xC2 0xF4 a) open_end) in
    cut_one a range.0 range.1
IsCutCharacter-no_fault (a ∷ b ∷ []) some none open_end =
    let tests = ends_after_two (is_in_range 0xC2 0xF4 a) (is_in_range (second_byte_min a) (second_byte_max a) b) open_end in
    two_bytes a b none (first_range a tests.0) tests.1
IsCutCharacter-no_fault (a ∷ b ∷ x ∷ []) some none open_end =
    let tests = ends_after_three (is_in_range 0xC2 0xF4 a) (is_in_range (second_byte_min a) (second_byte_max a) b) (is_in_range 0x80 0xBF x) open_end in
    three_bytes a b x none (first_range a tests.0) tests.1 (later_range x tests.2)
IsCutCharacter-no_fault (a ∷ b ∷ x ∷ y ∷ more) some none open_end =
    absurd (never_open_of (length (a ∷ b ∷ x ∷ y ∷ more)) (is_in_range 0xC2 0xF4 a) (is_in_range (second_byte_min a) (second_byte_max a) b) (is_in_range 0x80 0xBF x)
    (omega arith) open_end)

-- ---- and of a front of a character it is none

no_fault_two : (c k : ℕ) → 128 ≤ c → c < 2048 → 0 < k → k < length (encode_utf8 c) → utf8_error_len (take k (encode_utf8 c)) ≡ None
unfolding encode_utf8 utf8_error_len
no_fault_two c k low high some short =
    let one : k ≡ 1 = omega (arith, rw (le-ltb c 128 low, lt-ltb c 2048 high) at short) in
    rw (one, le-ltb c 128 low, lt-ltb c 2048 high) (grind (arith, nat_tests))

no_fault_three : (c k : ℕ) → IsScalar c → 2048 ≤ c → c < 65536 → 0 < k → k < length (encode_utf8 c) → utf8_error_len (take k (encode_utf8 c)) ≡ None
unfolding encode_utf8 utf8_error_len
no_fault_three c k scalar low high some short =
    let wide = le-ltb c 128 (omega arith) in
    let below : k < 3 = rw (wide, le-ltb c 2048 low, lt-ltb c 65536 high) at short in
    rw (wide, le-ltb c 2048 low, lt-ltb c 65536 high)
    (elim (eqb_tells k 1) [
      | inl p ↦ rw p.1 (grind (arith, nat_tests))
      | inr p ↦ let two : k ≡ 2 = omega arith in rw two (grind (arith, nat_tests))
    ])

-- a prefix of a character of four bytes is no fault
no_fault_four : (c k : ℕ) → IsScalar c → 65536 ≤ c → 0 < k → k < length (encode_utf8 c) → utf8_error_len (take k (encode_utf8 c)) ≡ None
unfolding encode_utf8 utf8_error_len
no_fault_four c k scalar low some short =
    let wide = le-ltb c 128 (omega arith) in
    let wider = le-ltb c 2048 (omega arith) in
    let high : c < 1114112 = grind (arith, nat_tests) in
    let below : k < 4 = rw (wide, wider, le-ltb c 65536 low) at short in
    rw (wide, wider, le-ltb c 65536 low)
    (elim (eqb_tells k 1) [
      | inl p ↦ rw p.1 (grind (arith, nat_tests))
      | inr p ↦ elim (eqb_tells k 2) [
        | inl q ↦ rw q.1 (grind (arith, nat_tests))
        | inr q ↦ let three : k ≡ 3 = omega arith in rw three (grind (arith, nat_tests))
      ]
    ])

-- a prefix of a character is no fault
no_fault : (c k : ℕ) → IsScalar c → 0 < k → k < length (encode_utf8 c) → utf8_error_len (take k (encode_utf8 c)) ≡ None
no_fault c k scalar some short =
    elim (leb_tells 65536 c) [
      | inl p ↦ no_fault_four c k scalar p.1 some short
      | inr p ↦ elim (leb_tells 2048 c) [
        | inl q ↦ no_fault_three c k scalar q.1 p.1 some short
        | inr q ↦ elim (leb_tells 128 c) [
          | inl r ↦ no_fault_two c k r.1 q.1 some short
          | inr r ↦ absurd (omega (arith, rw (length-encode c, lt-ltb c 128 r.1) at short))
        ]
      ]
    ]

-- bytes that begin a text, and that no character begins, end within a character
pub no_fault-text : (bytes later cs : List ℕ) → 0 < length bytes → scalars cs ≡ true → encode_utf8_all cs ≡ bytes ++ later
    → StartsWithNoChar bytes → utf8_error_len bytes ≡ None
no_fault-text bytes later [] some scalar is none = absurd (omega (arith, ap length is, length-append bytes later))
no_fault-text bytes later (c ∷ cs) some scalar is none =
    let char = encode_utf8 c in
    let first = (and_parts _ _ scalar).0 in
    elim (leb_tells (length char) (length bytes)) [
      | inl p ↦
          let front : char ≡ take (length char) bytes =
          sym (take_at char (encode_utf8_all cs) (length char) refl) ∙ ap (take (length char)) is ∙ take-append-le (length char) bytes later p.1 in
          absurd (none c (drop (length char) bytes) first (sym (take-append-drop (length char) bytes) ∙ ap (λ t. t ++ drop (length char) bytes) (sym front)))
      | inr p ↦
          let front : take (length bytes) char ≡ bytes =
          sym (take-append-le (length bytes) char (encode_utf8_all cs) (omega arith)) ∙ ap (take (length bytes)) is ∙ take_at bytes later (length bytes) refl in
          subst (λ t. utf8_error_len t ≡ None) front (no_fault c (length bytes) first some p.1)
    ]

-- ---- how long a cut character is

pub length-IsCutCharacter : (bytes : List ℕ) → IsCutCharacter bytes → length bytes ≤ 3
length-IsCutCharacter bytes cut =
    let some = cut.some in
    omega (arith, length-encode cut.character, len_utf8_bounds cut.character, ap length cut.whole, length-append bytes cut.rest)

-- a text that begins as a cut character does goes past it
pub no_text_within : (bytes : List ℕ) (n : ℕ) (cs : List ℕ) → IsCutCharacter bytes → 0 < n → n ≤ length bytes → encode_utf8_all cs ≡ take n bytes → ⊥
no_text_within bytes n [] cut some within is = omega (arith, ap length is, length-take-le n bytes within)
no_text_within bytes n (c ∷ cs) cut some within is =
    let afterwards = encode_utf8_all cs ++ (drop n bytes ++ cut.rest) in
    let parts : bytes ≡ encode_utf8 c ++ (encode_utf8_all cs ++ drop n bytes) =
    sym (take-append-drop n bytes) ∙ ap (λ t. t ++ drop n bytes) (sym is) ∙ append_assoc (encode_utf8 c) (encode_utf8_all cs) (drop n bytes) in
    let same : encode_utf8 cut.character ++ [] ≡ encode_utf8 c ++ ((encode_utf8_all cs ++ drop n bytes) ++ cut.rest) =
    append-nil _ ∙ cut.whole ∙ ap (λ t. t ++ cut.rest) parts ∙ append_assoc (encode_utf8 c) (encode_utf8_all cs ++ drop n bytes) cut.rest in
    let none = (encode_same cut.character c [] _ same).1 in
    let rest_some = cut.some in
    omega (arith, ap length none, length-append (encode_utf8_all cs ++ drop n bytes) cut.rest)

pub text_past_cut : (bytes later : List ℕ) (n : ℕ) → IsCutCharacter bytes → 0 < n → IsUtf8 (take n (bytes ++ later)) → length bytes ≤ n
text_past_cut bytes later n cut some text =
    elim (leb_tells (length bytes) n) [
      | inl p ↦ p.1
      | inr p ↦ absurd (no_text_within bytes n text.0 cut some (omega arith) (text.1.1 ∙ take-append-le n bytes later (omega arith)))
    ]
