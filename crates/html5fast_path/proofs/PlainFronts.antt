-- The front of a plain name.
use Rattle.std.proofs.Common.{◌≡◌, ℕ, true, List, take}
use Rattle.std.specs.List.{AllPass}
use Rattle.std.specs.Str.{IsUtf8}
use Rattle.std.proofs.lemmas.List.Elements.{All-weaker}
use Rattle.html5partial.specs.Runs.{stays_in_names}
use Rattle.markup5ever.specs.SmallCharSet.{BeginsOutside, IsMember}
use Rattle.html5fast_path.proofs.AsciiFronts.{IsAsciiFront, front-bytes, front-outside}

-- a byte that stands in a name as it is, and doesn't end it
abbrev pub IsPlain : ℕ → ℕ → Type 0
IsPlain set b = (stays_in_names b ≡ true) × ¬ IsMember set b

pub plain-outside : (set : ℕ) (text : List ℕ) (len : ℕ) → IsUtf8 text → IsAsciiFront (IsPlain set) text len → BeginsOutside set text len
plain-outside set text len utf8 front = front-outside (IsPlain set) set text len (λ c plain. plain.1) utf8 front

pub plain-stays : (set : ℕ) (text : List ℕ) (len : ℕ) → IsAsciiFront (IsPlain set) text len → AllPass stays_in_names (take len text)
plain-stays set text len front = All-weaker (IsPlain set) (λ b. stays_in_names b ≡ true) (λ b plain. plain.0) (take len text) (front-bytes (IsPlain set) text len front)
