use Rattle.std.proofs.Common.{◌≡◌}
use Rattle.tree_construction.specs.Adoption.{outer_loop}
use Rattle.tree_names.specs.ElementNames.{name_bytes}
use Rattle.tree_builder.specs.Built.{on_parser}
use Rattle.tree_builder.proofs.builder.Builder.adoption_turns.Given as goal

abbrev pub invariant-loop-turns : goal.invariant-loop-turns
invariant-loop-turns g l =
    on_parser (outer_loop l.turns (name_bytes l.name)) l.self ≡ on_parser (outer_loop 8 (name_bytes l.name)) l.initial.self

abbrev pub decreases-loop-turns : goal.decreases-loop-turns
decreases-loop-turns g l = l.turns
