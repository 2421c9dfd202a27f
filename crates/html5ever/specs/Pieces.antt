-- A text that comes in pieces.
use Rattle.std.specs.Prelude.{ℕ, List, map}
use Rattle.std.specs.List.{concat}
use Rattle.std.specs.Str.{chars}

-- the characters of the pieces, one after the other. Each piece is given by its bytes.
abbrev pub text_of : List (List ℕ) → List ℕ
text_of pieces = concat (map chars pieces)
