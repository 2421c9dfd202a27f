-- The front of a text whose bytes are ASCII, and each have a property.
use Rattle.std.proofs.Common.{inl, inr, ◌≡◌, ℕ, ◌<◌, ◌+◌, ◌≤◌, List, arith, subst, length, take}
use Rattle.std.specs.Prelude.{All, slice_index}
use Rattle.std.specs.Str.{IsAscii, IsCharBoundary, IsUtf8, chars}
use Rattle.std.proofs.lemmas.Bool.{cases_lt}
use Rattle.std.proofs.lemmas.List.{get_or-take, length-take-le}
use Rattle.std.proofs.lemmas.List.Elements.{All-from_get_or, All-weaker}
use Rattle.std.proofs.lemmas.Str.{IsCharBoundary-after_ascii, IsCharBoundary-start, IsUtf8-drop, chars-IsAscii}
use Rattle.std.proofs.lemmas.Str.Ascii.{IsAscii-more, IsAscii-nil}
use Rattle.markup5ever.specs.SmallCharSet.{BeginsOutside, IsMember}

-- this many bytes are such a front
pub record IsAsciiFront (P : ℕ → Type 0) (text : List ℕ) (len : ℕ) : Type 0 where
  pub boundary : IsCharBoundary text len
  pub ascii : IsAscii (take len text)
  pub each : (k : ℕ) → k < len → P (slice_index text k)

more : {P : ℕ → Type 0} (len : ℕ) → ((k : ℕ) → k < len → P k) → P len → (k : ℕ) → k < len + 1 → P k
more {P = P} len below here k less =
    elim (cases_lt k len) [
      | inl lower ↦ below k lower
      | inr upper ↦ let same : len ≡ k = omega (arith, less, upper) in subst P same here
    ]

pub front-start : (P : ℕ → Type 0) (text : List ℕ) → IsUtf8 text → IsAsciiFront P text 0
front-start P text utf8 = record { boundary = IsCharBoundary-start text utf8; ascii = IsAscii-nil; each = λ k less. absurd (omega (arith, less)) }

-- one byte more
pub front-more : (P : ℕ → Type 0) (text : List ℕ) (len : ℕ) → IsUtf8 text → len < length text → IsAsciiFront P text len
    → slice_index text len < 128 → P (slice_index text len) → IsAsciiFront P text (len + 1)
front-more P text len utf8 within front small good = record {
  boundary = IsCharBoundary-after_ascii text len utf8 within small;
  ascii = IsAscii-more text len within front.ascii small;
  each = more {P = λ k. P (slice_index text k)} len front.each good;
}

-- each of its bytes has the property
pub front-bytes : (P : ℕ → Type 0) (text : List ℕ) (len : ℕ) → IsAsciiFront P text len → All P (take len text)
front-bytes P text len front =
    let within : len ≤ length text = front.boundary.0 in
    All-from_get_or P (take len text) 0 (λ k less.
    let lower : k < len = omega (arith, less, length-take-le len text within) in rw (get_or-take len text k 0 lower) (front.each k lower))

-- and each of its characters
pub front-characters : (P : ℕ → Type 0) (text : List ℕ) (len : ℕ) → IsAsciiFront P text len → All P (chars (take len text))
front-characters P text len front = rw (chars-IsAscii (take len text) front.ascii) (front-bytes P text len front)

-- when no byte with the property is in a set, the front is outside it
pub front-outside : (P : ℕ → Type 0) (set : ℕ) (text : List ℕ) (len : ℕ) → ((c : ℕ) → P c → ¬ IsMember set c) → IsUtf8 text → IsAsciiFront P text len
    → BeginsOutside set text len
front-outside P set text len out utf8 front = record {
  within = front.boundary.0;
  rest_utf8 = IsUtf8-drop text len utf8 front.boundary;
  outside = All-weaker P (λ c. ¬ IsMember set c) out (chars (take len text)) (front-characters P text len front);
}
