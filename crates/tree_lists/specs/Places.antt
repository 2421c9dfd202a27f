-- Where a node stands among the open elements, counted from the current node. These are words of the proofs: no promise to callers is made of
-- them.
use Rattle.std.specs.Prelude.{◌≡◌, ℕ, ◌+◌, ◌<◌, true, false, List, [], ◌++◌, drop, length, take}
use Rattle.tree_construction.specs.Adoption.{opened_inside, opened_outside}
use Rattle.tree_construction.specs.Page.{Open, has_number, has_open, without_open}

pub record IsOpenAt (n : ℕ) (opened : List Open) (d : ℕ) : Type 0 where
  pub within : d < length opened
  pub has : has_open (has_number n) opened ≡ true
  pub inside : opened_inside n opened ≡ take d opened
  pub outside : opened_outside n opened ≡ drop (d + 1) opened
  pub without : without_open n opened ≡ take d opened ++ drop (d + 1) opened

pub record IsNotOpen (n : ℕ) (opened : List Open) : Type 0 where
  pub has : has_open (has_number n) opened ≡ false
  pub inside : opened_inside n opened ≡ opened
  pub outside : opened_outside n opened ≡ []
  pub without : without_open n opened ≡ opened
