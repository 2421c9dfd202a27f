use Rattle.std.proofs.Common.{◌≡◌}
use Rattle.tree_builder.proofs.RunSteps.{RunsOn}
use Rattle.tree_builder.proofs.builder.Builder.take_run.Given as goal

abbrev pub invariant-loop : goal.invariant-loop
invariant-loop g l = RunsOn l.class l.fn.self.parser l.counter l.self.parser × (l.self.telling ≡ l.fn.self.telling)
