-- The file's name in front of its output. There is none if names don't stand in front.
use Rattle.std.specs.Prelude.{ℕ, Bool, true, false, List, [], ◌++◌, Option, None, Some, codes}

-- before the first file
abbrev pub front_at_start : Bool → Option (List ℕ)
front_at_start true = Some []
front_at_start false = None

-- where a file begins
abbrev pub front_named : List ℕ → Option (List ℕ) → Option (List ℕ)
front_named file None = None
front_named file (Some name) = Some file

-- the text in front of a line
abbrev pub in_front : Option (List ℕ) → List ℕ
in_front None = []
in_front (Some name) = name ++ codes ":"
