use Rattle.std.proofs.Common.{◌≡◌, map, length}
use Rattle.std.specs.Vec.Iter.{into_iter_items, into_iter_len}
use Rattle.html5ever.specs.RunSteps.{step_of}
use Rattle.html5ever.proofs.StepRuns.{HasTaken}
use Rattle.html5ever.proofs.tokenizer.steps.take_steps.Given as goal

abbrev pub invariant-loop-step : goal.invariant-loop-step
invariant-loop-step g l =
    HasTaken g.S.TokenSink.means l.initial.tokenizer l.tokenizer
    (map step_of (into_iter_items l.initial.step-iterator)) (map step_of (into_iter_items l.step-iterator)) l.queue.text
    × (g.S.TokenSink.faults l.tokenizer.sink ≡ g.S.TokenSink.faults l.initial.tokenizer.sink)
    × (into_iter_len l.step-iterator ≡ length (into_iter_items l.step-iterator))
