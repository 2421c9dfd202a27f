use Rattle.markup5ever.specs.Names.{attribute_of}
use Rattle.tree_lines.specs.Shown.{seen}
use Rattle.tree_lines.proofs.Order.{IsPast}
use Rattle.tree_lines.proofs.attributes.place_among.Given as goal

abbrev pub invariant-loop-at : goal.invariant-loop-at
invariant-loop-at g l = IsPast seen (attribute_of l.attribute) l.ordered l.at
