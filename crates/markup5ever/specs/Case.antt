-- How a text is compared with a pattern, character by character. A pattern is ASCII, so its bytes are its characters.
use Rattle.std.specs.Prelude.{◌≢◌, ◌<◌, ℕ, List, length, map, nat_eq, slice_index, IsTrue}
use Rattle.std.specs.Char.{to_ascii_lowercase}
use Rattle.std.specs.List.{starts_with}
use Rattle.markup5ever.specs.declared.buffer_queue.Case.{Case}
use Rattle.markup5ever.specs.declared.buffer_queue.Case.TheVariants.{Exact, IgnoreAscii}

-- the characters as they are compared
abbrev pub folded : Case → List ℕ → List ℕ
folded Exact text = text
folded IgnoreAscii text = map to_ascii_lowercase text

-- the text begins with the pattern
abbrev pub BeginsLike : Case → List ℕ → List ℕ → Type 0
BeginsLike case text pattern = IsTrue (starts_with nat_eq (folded case text) (folded case pattern))

-- the text ends before the pattern does, and is like the pattern so far
pub record EndsWithin (case : Case) (text pattern : List ℕ) : Type 0 where
  pub shorter : length text < length pattern
  pub alike : BeginsLike case pattern text

-- the two differ at a character that both have
abbrev pub Differ : Case → List ℕ → List ℕ → Type 0
Differ case text pattern =
    (k : ℕ) × (k < length text) × (k < length pattern) × (slice_index (folded case text) k ≢ slice_index (folded case pattern) k)
