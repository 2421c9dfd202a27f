-- Sets of characters as bits, and searches for a byte that is in a set.
use Rattle.std.proofs.Common.{set, ◌≡◌, ◌≢◌, ◌↔◌, ℕ, zero, suc, ◌+◌, ◌-◌, ◌<◌, ◌≤◌, ◌*◌, ◌/◌, ◌%◌, ◌^◌, List, [], ◌∷◌, ◌++◌, length, get_or, take, drop, Contains, bit_and, bit_or, encode_utf8, encode_utf8_all, w64, refl, sym, ap, subst, ◌∙◌, inl, inr, arith, length-drop, pow-suc, pow-add, zero-mul, one-mul}
use Rattle.std.specs.Int.{IsBitSet, bit_at}
use Rattle.std.specs.List.{slice_index}
use Rattle.std.specs.Str.{IsUtf8, IsCharBoundary, chars}
use Rattle.std.proofs.lemmas.Bool.{cases_eq, cases_lt, cond-true, cond-false, lt-ltb, le-ltb}
use Rattle.std.proofs.Math.Nat.{div-div-eq-div-mul}
use Rattle.std.proofs.lemmas.Nat.{pow_pos, div-add-mod', and_le_r}
use Rattle.std.proofs.lemmas.Nat.Bits.{and_pow, bit_at-lt, bit_at_set_same, bit_at_set_other, bit_at_above, bit_at_cat_low}
use Rattle.std.proofs.lemmas.List.{drop_all, drop_at, get_or-drop, get_or-take, length-take-le, take_at}
use Rattle.std.proofs.lemmas.List.Elements.{All-nil, All-cons, All-head, All-take, All-drop, All-from_get_or, Contains-append_left, Contains-push, Contains-push_cases}
use Rattle.std.proofs.lemmas.Str.{chars-nil, char_from_byte, encode_ascii, encodes-chars, IsCharBoundary-before_ascii, IsCharBoundary-end, IsUtf8-drop, IsUtf8-take}
use Rattle.std.proofs.lemmas.Simd.{get_or-chunk}
use lib.Lanes.{chunk}
use Rattle.markup5ever.specs.Lanes.{bit_of}
use Rattle.markup5ever.specs.Blocks.{NoneWithin, IsFirstFrom}
use Rattle.markup5ever.specs.SmallCharSet.{IsMember, IsOutside, BeginsOutside}

-- a bit that is set is 1, and a bit that is 1 is set
bit_at-set : (n k : ℕ) → IsBitSet n k → bit_at n k ≡ 1
bit_at-set n k set =
    elim (cases_eq (bit_at n k) 0) [ inl e ↦ absurd (set (rw (and_pow n k, e) (omega arith))) | inr other ↦ omega (arith, bit_at-lt n k) ]

IsBitSet-from_bit : (n k : ℕ) → bit_at n k ≡ 1 → IsBitSet n k
IsBitSet-from_bit n k e = λ none. omega (arith, pow_pos k, sym (and_pow n k) ∙ none, rw e at (and_pow n k))

-- where the number gains bit m, the set gains m
set_bit : ℕ → ℕ → ℕ
set_bit set m = bit_or set (1 * 2 ^ m % 2 ^ 64)

member_after : (set m c : ℕ) → m < 64 → IsMember set c → IsMember (set_bit set m) c
unfolding set_bit
member_after set m c within member =
    elim (cases_eq c m) [
      | inl same ↦ (member.0, IsBitSet-from_bit _ c (rw same (bit_at_set_same w64 set m within)))
      | inr other ↦ (member.0, IsBitSet-from_bit _ c (bit_at_set_other w64 set m within c other ∙ bit_at-set set c member.1))
    ]

member_itself : (set m c : ℕ) → m < 64 → m ≡ c → IsMember (set_bit set m) c
unfolding set_bit
member_itself set m c within same = rw (← same) (within, IsBitSet-from_bit _ m (bit_at_set_same w64 set m within))

member_before : (set m c : ℕ) (xs : List ℕ) → m < 64 → ((c : ℕ) → IsMember set c ↔ Contains xs c) → IsMember (set_bit set m) c → Contains (xs ++ m ∷ []) c
unfolding set_bit
member_before set m c xs within same member =
    elim (cases_eq c m) [
      | inl e ↦ rw e (Contains-push xs m)
      | inr other ↦ Contains-append_left xs (m ∷ []) c ((same c).0 (member.0, IsBitSet-from_bit set c (sym (bit_at_set_other w64 set m within c other) ∙ bit_at-set _ c member.1)))
    ]

pub IsMember-push : (set m : ℕ) (xs : List ℕ) → m < 64 → ((c : ℕ) → IsMember set c ↔ Contains xs c) → (c : ℕ) → IsMember (bit_or set (1 * 2 ^ m % 2 ^ 64)) c ↔ Contains (xs ++ m ∷ []) c
unfolding set_bit
IsMember-push set m xs within same c = (
  member_before set m c xs within same,
  λ contained. elim (Contains-push_cases xs m c contained) [
    | inl old ↦ member_after set m c within ((same c).1 old)
    | inr itself ↦ member_itself set m c within itself
  ],
)

-- ---- the bit of a character among the eight of its eighth

pow_eighths : (a : ℕ) → 256 ^ a ≡ 2 ^ (8 * a)
pow_eighths zero = refl
pow_eighths (suc a) = pow-suc 256 a ∙ ap (λ m. m * 256) (pow_eighths a) ∙ sym (pow-add 2 (8 * a) 8) ∙ ap (λ m. 2 ^ m) (omega arith)

bit_at-eighth : (n a j : ℕ) → j < 8 → bit_at (n / 256 ^ a % 256) j ≡ bit_at n (8 * a + j)
bit_at-eighth n a j less =
    let q = n / 256 ^ a in
    let power : 256 ^ a * 2 ^ j ≡ 2 ^ (8 * a + j) = ap (λ m. m * 2 ^ j) (pow_eighths a) ∙ sym (pow-add 2 (8 * a) j) in
    sym (bit_at_cat_low (q / 256) 8 (q % 256) j less) ∙ ap (λ m. bit_at m j) (div-add-mod' q 256)
    ∙ ap (λ m. m % 2) (div-div-eq-div-mul n (256 ^ a) (2 ^ j) ∙ ap (λ m. n / m) power)

eighth_has_bit : (n x : ℕ) → x < 256 → bit_and (n / 256 ^ (x / 8 % 16) % 256) (bit_of x) ≡ bit_at n x * bit_of x
eighth_has_bit n x less =
    let eighth = n / 256 ^ (x / 8 % 16) % 256 in
    elim (cases_lt x 128) [
      | inl low ↦
          let bit : bit_of x ≡ 2 ^ (x % 8) = cond-true _ _ _ (lt-ltb x 128 low) in
          let same : bit_at eighth (x % 8) ≡ bit_at n x = bit_at-eighth n (x / 8 % 16) (x % 8) (omega arith) ∙ ap (bit_at n) (omega (arith, low)) in
          rw (bit, and_pow eighth (x % 8), same) refl
      | inr high ↦
          let bit : bit_of x ≡ 0 = cond-false _ _ _ (le-ltb x 128 high) in
          rw bit (omega (arith, and_le_r eighth 0))
    ]

-- the eighth of a set and the bit have a bit in common just where the byte is in the set
pub eighth_tells : (n x : ℕ) → n < 2 ^ 64 → x < 256 → (bit_and (n / 256 ^ (x / 8 % 16) % 256) (bit_of x) ≢ 0) ↔ IsMember n x
eighth_tells n x fits less =
    let both = eighth_has_bit n x less in (
      λ some. elim (cases_eq (bit_at n x) 0) [
        | inl none ↦ absurd (some (both ∙ ap (λ b. b * bit_of x) none ∙ zero-mul (bit_of x)))
        | inr one ↦ elim (cases_lt x 64) [
          | inl low ↦ (low, IsBitSet-from_bit n x (omega (arith, one, bit_at-lt n x)))
          | inr high ↦ absurd (one (bit_at_above n 64 x fits high))
        ]
      ],
      λ member none.
          let bit : bit_of x ≡ 2 ^ (x % 8) = cond-true _ _ _ (lt-ltb x 128 (omega (arith, member.0))) in
          omega (arith, pow_pos (x % 8), sym none ∙ both ∙ ap (λ b. b * bit_of x) (bit_at-set n x member.1) ∙ one-mul (bit_of x) ∙ bit),
    )

-- ---- the bytes of a text and its characters

-- characters are outside where their bytes are
outside_from_bytes : (set : ℕ) (cs : List ℕ) → IsOutside set (encode_utf8_all cs) → IsOutside set cs
outside_from_bytes set [] outside = All-nil (λ c. ¬ IsMember set c)
outside_from_bytes set (c ∷ cs) outside =
    let Other : ℕ → Type 0 = λ b. ¬ IsMember set b in
    let width = length (encode_utf8 c) in
    let all = encode_utf8 c ++ encode_utf8_all cs in
    let first : IsOutside set (encode_utf8 c) = rw (take_at (encode_utf8 c) (encode_utf8_all cs) width refl) at (All-take Other width all outside) in
    let others : IsOutside set (encode_utf8_all cs) = rw (drop_at (encode_utf8 c) (encode_utf8_all cs) width refl) at (All-drop Other width all outside) in
    let outside_c : ¬ IsMember set c = λ member. All-head Other c [] (rw (encode_ascii c (omega (arith, member.0))) at first) member in
    All-cons Other c cs outside_c (outside_from_bytes set cs others)

-- the first bytes are outside, and the next is a member if there is one
abbrev StopsAt : ℕ → List ℕ → ℕ → Type 0
StopsAt set text len = IsFirstFrom (IsMember set) text 0 len

StopsAt-boundary : (set : ℕ) (text : List ℕ) (len : ℕ) → IsUtf8 text → StopsAt set text len → IsCharBoundary text len
StopsAt-boundary set text len utf8 stops =
    elim (cases_lt len (length text)) [
      | inl less ↦ let member = stops.stops less in IsCharBoundary-before_ascii text len less (omega (arith, member.0))
      | inr all ↦ let same : len ≡ length text = omega (arith, stops.high, all) in rw same (IsCharBoundary-end text)
    ]

-- where bytes outside a set stop, characters outside the set do
pub BeginsOutside-bytes : (set : ℕ) (text : List ℕ) (len : ℕ) → IsUtf8 text → StopsAt set text len → BeginsOutside set text len
BeginsOutside-bytes set text len utf8 stops =
    let Other : ℕ → Type 0 = λ b. ¬ IsMember set b in
    let boundary = StopsAt-boundary set text len utf8 stops in
    let size : length (take len text) ≡ len = length-take-le len text stops.high in
    let bytes : IsOutside set (take len text) = All-from_get_or Other (take len text) 0 (λ k less. rw (get_or-take len text k 0 (omega (arith, less, size))) (stops.none_before k (omega arith) (omega (arith, less, size)))) in
    record {
      within = stops.high;
      rest_utf8 = IsUtf8-drop text len utf8 boundary;
      outside = outside_from_bytes set (chars (take len text)) (rw (encodes-chars (take len text) (IsUtf8-take text len utf8 boundary)) bytes);
    }

-- the character after them is a member
pub member_past : (set : ℕ) (text : List ℕ) (len : ℕ) → IsUtf8 text → StopsAt set text len → (c : ℕ) (rest : List ℕ) → chars (drop len text) ≡ c ∷ rest → IsMember set c
member_past set text len utf8 stops c rest e =
    let rest_utf8 = IsUtf8-drop text len utf8 (StopsAt-boundary set text len utf8 stops) in
    elim (cases_lt len (length text)) [
      | inl less ↦
          let member = stops.stops less in
          let byte : get_or (drop len text) 0 0 ≡ slice_index text len = get_or-drop len text 0 0 ∙ ap (λ n. get_or text n 0) (omega arith) in
          let begins : drop len text ≡ encode_utf8 c ++ encode_utf8_all rest = sym (encodes-chars (drop len text) rest_utf8) ∙ ap encode_utf8_all e in
          let same : c ≡ slice_index text len = char_from_byte (drop len text) (encode_utf8_all rest) c begins (omega (arith, byte, member.0)) (omega (arith, less, length-drop len text)) ∙ byte in
          rw same member
      | inr all ↦ absurd (omega (arith, ap length (sym e ∙ ap chars (drop_all len text all) ∙ chars-nil)))
    ]

-- ---- a block of bytes and the lanes that are not zero where its bytes are in the set

abbrev pub MarksBlock : ℕ → List ℕ → ℕ → List ℕ → Type 0
MarksBlock set bytes at marks = (k : ℕ) → k < 16 → (slice_index marks k ≢ 0) ↔ IsMember set (slice_index (chunk at 16 bytes) k)

marks_at : (set : ℕ) (bytes : List ℕ) (at : ℕ) (marks : List ℕ) → MarksBlock set bytes at marks → (k : ℕ) → k < 16 → (slice_index marks k ≢ 0) ↔ IsMember set (slice_index bytes (at + k))
marks_at set bytes at marks marked k less = subst (λ x. (slice_index marks k ≢ 0) ↔ IsMember set x) (get_or-chunk at 16 bytes k 0 less) (marked k less)

pub NoneWithin-unmarked : (set : ℕ) (bytes : List ℕ) (at : ℕ) (marks : List ℕ) (step : ℕ) → step ≤ 16 → MarksBlock set bytes at marks → ((k : ℕ) → k < step → slice_index marks k ≡ 0) → NoneWithin (IsMember set) bytes at (at + step)
NoneWithin-unmarked set bytes at marks step within marked none k low high member =
    let place : at + (k - at) ≡ k = omega (arith, low) in
    (marks_at set bytes at marks marked (k - at) (omega (arith, low, high, within))).1 (rw place member) (none (k - at) (omega (arith, low, high)))

pub member_marked : (set : ℕ) (bytes : List ℕ) (at : ℕ) (marks : List ℕ) (step : ℕ) → MarksBlock set bytes at marks → (step < 16 → slice_index marks step ≢ 0) → step < 16 → IsMember set (slice_index bytes (at + step))
member_marked set bytes at marks step marked some less = (marks_at set bytes at marks marked step less).0 (some less)
