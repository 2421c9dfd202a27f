use Rattle.std.proofs.Common.{◌≡◌}
use Rattle.tree_builder.specs.Built.{on_parser}
use Rattle.tree_builder.specs.Characters.{refused_and_replaced, repeated}
use Rattle.tree_builder.proofs.builder.Builder.replace_times.Given as goal

abbrev pub invariant-loop : goal.invariant-loop
invariant-loop g l = l.self ≡ on_parser (repeated refused_and_replaced l.counter) l.initial.self
