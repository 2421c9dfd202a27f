use Rattle.std.proofs.Common.{refl, ◌∙◌, ap, sym, subst, Ok, arith}
use Rattle.std.proofs.lemmas.Result.{err_from_is_err_and}
use Rattle.html5ever.proofs.Draining.{HasDrained-none, HasDrained-more, HasDrained-all, HasDrained-takes, HasDrained-stops, ok-not_failed}
use Rattle.markup5ever.specs.NamedReferences.{IsTable}
use Rattle.html5ever.proofs.ByItems.{reads-items}
use Rattle.html5ever.proofs.tokenizer.steps.feed_until_done.Goals as goal

pub loop-init : goal.loop-init
loop-init g c = (HasDrained-none g.S.TokenSink.means c.args.tokenizer.now c.args.queue.now c.requires, refl)

pub returns-in_err-feed-clause-stops : goal.returns-in_err-feed-clause-stops
returns-in_err-feed-clause-stops g c =
    let p = err_from_is_err_and c.from_residual.result c.from_residual.ensures.1 in
    rw (p.1, p.2) (HasDrained-stops g.S.TokenSink.means _ _ _ _ _ _ _ c.loop.invariant.0 c.in_err-feed.ensures.stops)

pub returns-in_err-feed-clause-queue : goal.returns-in_err-feed-clause-queue
returns-in_err-feed-clause-queue g c = HasDrained-takes g.S.TokenSink.means _ _ _ _ _ _ c.loop.invariant.0 c.feed.ensures.queue

pub returns-in-Done-clause-reads : goal.returns-in-Done-clause-reads
returns-in-Done-clause-reads g c =
    HasDrained-all g.S.TokenSink.means _ _ _ _
    (HasDrained-more g.S.TokenSink.means _ _ _ _ _ _ _ c.loop.invariant.0 c.in_ok-feed.ensures.reads c.in_ok-feed.ensures.queue
    c.in_ok-feed.ensures.rules c.in_ok-feed.ensures.going_on
    (c.in_ok-feed.ensures.failed ∙ sym (ok-not_failed c.feed.result _ _ c.in_ok-feed.was c.feed.ensures.failed_before)))
    (c.in_ok-feed.ensures.done (ap Ok c.in-Done.is))

pub returns-in-Done-clause-items : goal.returns-in-Done-clause-items
returns-in-Done-clause-items g c =
    reads-items g.S.TokenSink.means c.args.tokenizer.now _ _
    (subst (λ t. IsTable t.rules.references) c.tokenizer.view_is c.table_laws.ensures)
    (c.in_ok-feed.ensures.rules ∙ c.loop.invariant.0.rules)
    (returns-in-Done-clause-reads g c)

pub returns-in-Done-clause-queue : goal.returns-in-Done-clause-queue
returns-in-Done-clause-queue g c = HasDrained-takes g.S.TokenSink.means _ _ _ _ _ _ c.loop.invariant.0 c.feed.ensures.queue

pub loop-preserved-in-Script : goal.loop-preserved-in-Script
loop-preserved-in-Script g c = (
  HasDrained-more g.S.TokenSink.means _ _ _ _ _ _ _ c.loop.invariant.0 c.in_ok-feed.ensures.reads c.in_ok-feed.ensures.queue
      c.in_ok-feed.ensures.rules c.in_ok-feed.ensures.going_on
      (c.in_ok-feed.ensures.failed ∙ sym (ok-not_failed c.feed.result _ _ c.in_ok-feed.was c.feed.ensures.failed_before)),
  omega (arith, c.in_ok-feed.ensures.faults, c.loop.invariant.1),
)

pub loop-preserved-in-Script-2 : goal.loop-preserved-in-Script-2
loop-preserved-in-Script-2 g c = (
  HasDrained-more g.S.TokenSink.means _ _ _ _ _ _ _ c.loop.invariant.0 c.in_ok-feed.ensures.reads c.in_ok-feed.ensures.queue
      c.in_ok-feed.ensures.rules c.in_ok-feed.ensures.going_on
      (c.in_ok-feed.ensures.failed ∙ sym (ok-not_failed c.feed.result _ _ c.in_ok-feed.was c.feed.ensures.failed_before)),
  omega (arith, c.in_ok-feed.ensures.faults, c.loop.invariant.1),
)
