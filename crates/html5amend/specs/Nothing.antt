-- A handler that changes nothing.
use Rattle.std.specs.Prelude.{◌≡◌}
use Rattle.html5amend.specs.Amending.{Amends}
use Rattle.html5amend.specs.Elements.{ElementOf}
use Rattle.html5amend.specs.Others.{OtherOf}

pub record ChangesNothing (amends : Amends) : Type 0 where
  pub element : (e : ElementOf) → amends.element e ≡ e
  pub other : (o : OtherOf) → amends.other o ≡ o
