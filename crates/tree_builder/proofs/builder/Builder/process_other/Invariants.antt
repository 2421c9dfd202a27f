use Rattle.std.proofs.Common.{◌≡◌}
use Rattle.tree_builder.specs.Taking.{other_token}
use Rattle.tree_builder.proofs.Processing.{Processes}
use Rattle.tree_builder.proofs.builder.Builder.process_other.Given as goal

abbrev pub invariant-loop : goal.invariant-loop
invariant-loop g l =
    Processes (other_token l.token) l.fn.self.parser l.counter (other_token l.token) l.fostered l.self.parser
    × (l.self.telling ≡ l.fn.self.telling)
