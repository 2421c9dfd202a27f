-- What contracts see of a count and of a log.
use Rattle.std.specs.Prelude.{ℕ, List}

pub record Counted : Type 0 where
  pub total : ℕ

pub record Logged : Type 0 where
  pub bytes : List ℕ
