-- Lists that begin with another.
use Rattle.std.specs.Prelude.{◌≡◌, ℕ, List, ◌++◌}

-- a list that begins with another
pub record BeginsWith (list front : List ℕ) : Type 0 where
  pub rest : List ℕ
  pub parts : list ≡ front ++ rest
