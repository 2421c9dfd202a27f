-- Lists in order.
use Rattle.std.specs.Prelude.{ℕ, List, [], ◌∷◌, if◌then◌else◌}
use Rattle.std.specs.Bool.{nat_le}

module _ {X : Type 0} (key : X → ℕ) where
  -- before the first whose key is the same or greater
  unfoldable pub put : X → List X → List X
  put x [] = x ∷ []
  put x (y ∷ ys) = if nat_le (key x) (key y) then x ∷ y ∷ ys else y ∷ put x ys

  -- in order of their keys, and those of one key in the order that they had
  unfoldable pub in_order : List X → List X
  in_order [] = []
  in_order (x ∷ xs) = put x (in_order xs)
