use Rattle.std.proofs.Common.{map}
use Rattle.markup5ever.specs.Names.{attribute_of}
use Rattle.tree_arena.proofs.Lacking.{IsAdding}
use Rattle.tree_arena.proofs.attributes.add_lacking.Given as goal

abbrev pub invariant-loop-attribute : goal.invariant-loop-attribute
invariant-loop-attribute g l = IsAdding attribute_of (map attribute_of l.initial.own.items) l.more l.own.items l.count l.attribute-index
