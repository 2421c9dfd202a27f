-- What is written of a line of JSON.
use Rattle.std.specs.Prelude.{◌≡◌, List, ◌++◌, OnOk, Result}
use Rattle.json.specs.Token.{Token}
use Rattle.json.specs.Written.{Written}

-- these tokens of JSON were written, and what stood before is as it was
pub record Adds {E : Type 0} (result : Result (Unit {0}) E) (before after : Written) (tokens : List Token) : Type 0 where
  pub ok : OnOk result (after.tokens ≡ before.tokens ++ tokens)
  pub kept : after.before ≡ before.before
