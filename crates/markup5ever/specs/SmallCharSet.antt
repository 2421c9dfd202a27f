-- Sets of characters below 64, and texts that begin with characters outside one.
use Rattle.std.specs.Prelude.{ℕ, ◌<◌, ◌≤◌, List, length, take, drop, All}
use Rattle.std.specs.Int.{IsBitSet}
use Rattle.std.specs.Str.{IsUtf8, chars}

-- the character is in the set, which has a bit for each character below 64
abbrev pub IsMember : ℕ → ℕ → Type 0
IsMember set c = (c < 64) × IsBitSet set c

-- no character of the list is in the set
abbrev pub IsOutside : ℕ → List ℕ → Type 0
IsOutside set cs = All (λ c. ¬ IsMember set c) cs

-- the text begins with characters outside the set, which take this many bytes
pub record BeginsOutside (set : ℕ) (text : List ℕ) (len : ℕ) : Type 0 where
  pub within : len ≤ length text
  pub rest_utf8 : IsUtf8 (drop len text)
  pub outside : IsOutside set (chars (take len text))
