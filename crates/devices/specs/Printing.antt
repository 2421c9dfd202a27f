-- Output that is written a buffer at a time.
use Rattle.std.specs.Prelude.{ℕ, Bool, List}

-- a target, and the bytes that it took
pub record Taking (W : Type 0) : Type 0 where
  pub inner : W
  pub taken : List ℕ

-- the target, all that was printed, and whether a buffer could not be written
pub record Printing (W : Type 0) : Type 0 where
  pub target : Taking W
  pub printed : List ℕ
  pub failed : Bool
