-- Texts that grow, and are cut back to what stood before.
use Rattle.std.proofs.Common.{◌≡◌, ℕ, ◌≤◌, List, length, take, refl, ap, ◌∙◌, arith}
use Rattle.std.specs.Str.{IsUtf8, IsCharBoundary}
use Rattle.std.specs.String.Boundary.{IsSplitPoint}
use Rattle.std.proofs.lemmas.List.{take_at, length-append}
use Rattle.std.proofs.lemmas.Str.{IsCharBoundary-from_take}
use Rattle.markup5ever.specs.Lists.{BeginsWith}

pub front_taken : (text front : List ℕ) → BeginsWith text front → take (length front) text ≡ front
front_taken text front begins = ap (take (length front)) begins.parts ∙ take_at front begins.rest (length front) refl

-- a text that begins with another can be cut where that ends
pub front_cut : (text front : List ℕ) (len : ℕ) → IsUtf8 text → IsUtf8 front → len ≡ length front → BeginsWith text front → IsSplitPoint text len
front_cut text front len utf8 whole size begins =
    let within : length front ≤ length text = omega (arith, ap length begins.parts, length-append front begins.rest) in
    let cut : IsCharBoundary text (length front) = IsCharBoundary-from_take text (length front) utf8 within (rw (front_taken text front begins) whole) in
    rw size (within, λ _. cut.1)
