use Rattle.std.proofs.Common.{◌≡◌, [], ap}
use Rattle.html5cleaner.specs.Settled.{names_in}
use Rattle.html5cleaner.specs.Shape.{Shape}
use Rattle.html5cleaner.specs.Shape.Shape.{AsKept, Balanced, Tree}
use Rattle.html5cleaner.specs.declared.opened.Opened.{Opened}
use Rattle.html5tree.specs.Nested.{Nested}
use Rattle.html5cleaner.proofs.opened.Opened.none.Goals as goal

none-named : {Z : Type 0} (o : Opened Z) → o.tags ≡ [] → o.tree.opened ≡ [] → (shape : Shape) → names_in shape o ≡ []
none-named o tags tree AsKept = tags
none-named o tags tree Balanced = tags
none-named o tags tree (Tree limit) = tree

pub returns-clause-named : goal.returns-clause-named
returns-clause-named g c = none-named _ c.none.ensures (ap (λ (n : Nested). n.opened) c.new.ensures)
