-- Pieces of a text that are handed in, one after the other.
use Rattle.std.proofs.Common.{◌≡◌, ℕ, List, ◌++◌, ap, ◌∙◌}
use Rattle.std.proofs.lemmas.List.{append_assoc}
use Rattle.std.specs.Str.{chars}

-- one piece further
pub handed-more : (before after rest all : List ℕ) (piece : List ℕ) → before ++ (chars piece ++ rest) ≡ all → after ≡ before ++ chars piece
    → after ++ rest ≡ all
handed-more before after rest all piece waits gains = ap (λ l. l ++ rest) gains ∙ append_assoc before (chars piece) rest ∙ waits
