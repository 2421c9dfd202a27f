use Rattle.std.proofs.Common.{refl, ◌∙◌, ap, sym, arith, length}
use Rattle.std.proofs.lemmas.Result.{err_from_is_err_and, on_ok_weaker, IfErr-weaker}
use Rattle.html5ever.specs.RunSteps.{step_of}
use Rattle.html5ever.proofs.StepRuns.{HasTaken-none, HasTaken-more, HasTaken-finishes, HasTaken-memory, HasTaken-stops, HasTaken-drain_stops, HasTaken-end_stops, nothing_left}
use Rattle.html5ever.proofs.tokenizer.steps.take_steps.Goals as goal

pub loop-step-init : goal.loop-step-init
loop-step-init g c = (HasTaken-none g.S.TokenSink.means c.args.tokenizer.now _ c.new-queue.result.text c.new-queue.ensures.text c.requires.going_on c.requires.not_failed, refl, search)

pub returns-in_err-hand_in-clause-stops : goal.returns-in_err-hand_in-clause-stops
returns-in_err-hand_in-clause-stops g c =
    let p = err_from_is_err_and c.from_residual.result c.from_residual.ensures.1 in
    rw (p.1, p.2, c.in_err-hand_in.ensures.err, ← c.into_iter-step-iterator.ensures.into_iter_gives.0) (HasTaken-memory g.S.TokenSink.means _ _ _ _ _ c.loop-step.invariant.0)

pub returns-in_err-feed_once-clause-stops : goal.returns-in_err-feed_once-clause-stops
returns-in_err-feed_once-clause-stops g c =
    let p = err_from_is_err_and c.from_residual-in_err-feed_once.result c.from_residual-in_err-feed_once.ensures.1 in
    rw (p.1, p.2, ← c.into_iter-step-iterator.ensures.into_iter_gives.0) (HasTaken-stops g.S.TokenSink.means _ _ _ _ _ (step_of c.in-Some.step) _ _ _ _ (rw c.in-Some.ensures.steps.0 at c.loop-step.invariant.0) c.in_ok-hand_in.ensures.ok c.in_err-feed_once.ensures.stops)

pub loop-step-preserved : goal.loop-step-preserved
loop-step-preserved g c = (
  HasTaken-more g.S.TokenSink.means _ _ _ _ _ (step_of c.in-Some.step) _ _ _ c.in_ok-feed_once.ensures.reads.0 (rw c.in-Some.ensures.steps.0 at c.loop-step.invariant.0) c.in_ok-hand_in.ensures.ok
      c.in_ok-feed_once.ensures.reads.1 c.feed_once.ensures.queue.end_of_queue
      c.feed_once.ensures.rules c.feed_once.ensures.going_on c.in_ok-feed_once.ensures.not_failed,
  omega (arith, c.in_ok-feed_once.ensures.faults, c.loop-step.invariant.1),
  (let short = ap length c.in-Some.ensures.steps.0 in
      let gone = c.in-Some.ensures.steps.1 in
      let was = c.loop-step.invariant.2 in
      omega arith),
)

pub returns-in_err-feed_until_done-clause-stops : goal.returns-in_err-feed_until_done-clause-stops
returns-in_err-feed_until_done-clause-stops g c =
    let p = err_from_is_err_and c.from_residual-in_err-feed_until_done.result c.from_residual-in_err-feed_until_done.ensures.1 in
    rw (p.1, p.2, ← c.into_iter-step-iterator.ensures.into_iter_gives.0) (HasTaken-drain_stops g.S.TokenSink.means _ _ _ _ _ _ (rw (nothing_left _ (sym c.loop-step.invariant.2 ∙ c.in-None.ensures.steps.0)) at c.loop-step.invariant.0) c.in_err-feed_until_done.ensures.stops)

pub returns-clause-finishes : goal.returns-clause-finishes
returns-clause-finishes g c =
    rw (← c.into_iter-step-iterator.ensures.into_iter_gives.0)
    (on_ok_weaker c.end.result
    (λ finishes. HasTaken-finishes g.S.TokenSink.means _ _ _ _ _ _ (rw (nothing_left _ (sym c.loop-step.invariant.2 ∙ c.in-None.ensures.steps.0)) at c.loop-step.invariant.0)
    c.in_ok-feed_until_done.ensures.reads c.in_ok-feed_until_done.ensures.rules finishes)
    c.end.ensures.finishes)

pub returns-clause-stops : goal.returns-clause-stops
returns-clause-stops g c =
    rw (← c.into_iter-step-iterator.ensures.into_iter_gives.0)
    (IfErr-weaker c.end.result _ _
    (λ e stops. HasTaken-end_stops g.S.TokenSink.means e _ _ _ _ _ _ (rw (nothing_left _ (sym c.loop-step.invariant.2 ∙ c.in-None.ensures.steps.0)) at c.loop-step.invariant.0)
    c.in_ok-feed_until_done.ensures.reads c.in_ok-feed_until_done.ensures.rules stops)
    c.end.ensures.stops)
