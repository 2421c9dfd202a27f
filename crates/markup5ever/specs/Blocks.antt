-- Searches for the first byte of a kind.
use Rattle.std.specs.Prelude.{ℕ, ◌<◌, ◌≤◌, List, length, slice_index}

-- none of the bytes from one place up to another is sought
abbrev pub NoneWithin : (ℕ → Type 0) → List ℕ → ℕ → ℕ → Type 0
NoneWithin is_sought bytes from to = (k : ℕ) → from ≤ k → k < to → ¬ is_sought (slice_index bytes k)

-- the place of the first byte from one place on that is sought, or the end
pub record IsFirstFrom (is_sought : ℕ → Type 0) (bytes : List ℕ) (from place : ℕ) : Type 0 where
  pub low : from ≤ place
  pub high : place ≤ length bytes
  pub none_before : NoneWithin is_sought bytes from place
  pub stops : place < length bytes → is_sought (slice_index bytes place)
