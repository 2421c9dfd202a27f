use Rattle.std.proofs.Common.{◌≡◌}
use Rattle.tree_construction.specs.Parser.{unexpected}
use Rattle.tree_builder.specs.Built.{on_parser}
use Rattle.tree_builder.specs.Characters.{repeated}
use Rattle.tree_builder.proofs.builder.Builder.refuse_times.Given as goal

abbrev pub invariant-loop : goal.invariant-loop
invariant-loop g l = l.self ≡ on_parser (repeated unexpected l.counter) l.initial.self
