use Rattle.std.proofs.Common.{◌≡◌}
use Rattle.tree_sink.specs.Sinks.{erred}
use Rattle.tree_sink.proofs.editor.tell_mistakes.Given as goal

abbrev pub invariant-loop : goal.invariant-loop
invariant-loop g l =
    (g.S.TreeSink.means.state l.sink ≡ erred g.S.TreeSink.means.step l.mistake l.counter (g.S.TreeSink.means.state l.initial.sink))
    × (g.S.TreeSink.faults l.sink ≡ g.S.TreeSink.faults l.initial.sink)
