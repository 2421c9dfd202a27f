use Rattle.html5partial.proofs.Decided.{begun-stands}
use Rattle.html5feed.proofs.position.Position.begin_reference.Goals as goal

pub invariant_of-self : goal.invariant_of-self
invariant_of-self g c = λ inside. (begun-stands _ _ _ (rw (← c.self.view_is) at c.requires.decided) (rw (← c.self.view_is) at c.requires.can_stand)).0

pub returns-clause-opened : goal.returns-clause-opened
returns-clause-opened g c =
    rw (← c.self.view_is, c.clear.ensures) (begun-stands _ _ _ (rw (← c.self.view_is) at c.requires.decided) (rw (← c.self.view_is) at c.requires.can_stand)).1
