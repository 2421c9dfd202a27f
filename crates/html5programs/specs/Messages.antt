-- What a program prints to, and what it says on standard error.
use Rattle.std.specs.Prelude.{◌≤◌, ℕ, Bool, List, ◌++◌, length, take, codes, Option}
use Rattle.std.specs.Io.KnownBytes.{Appends}

-- a writer, whether its reader has gone away, and how many of its writes failed
pub record Piped (W : Type 0) : Type 0 where
  pub inner : W
  pub is_closed : Bool
  pub failures : ℕ

-- the program's name, and where it says what went wrong
pub record Saying (E : Type 0) : Type 0 where
  pub program : List ℕ
  pub target : E

-- the line of a message: the program's name, what it is about, and why
abbrev pub message : List ℕ → List ℕ → List ℕ → List ℕ
message program what why = program ++ codes ": " ++ what ++ codes ": " ++ why ++ codes "\n"

-- known bytes grew by a prefix of the line: by all of it, or by less where it could not be made or written
abbrev pub SaysLine : {E : Type 0} → (E → Option (List ℕ)) → E → E → List ℕ → Type 0
SaysLine contents before after line = (n : ℕ) × (n ≤ length line) × Appends (contents before) (contents after) (take n line)
