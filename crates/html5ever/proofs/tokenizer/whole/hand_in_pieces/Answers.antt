use Rattle.std.proofs.Common.{refl, ◌∙◌, ap, sym, arith, length}
use Rattle.std.proofs.lemmas.List.{append-nil}
use Rattle.std.specs.String.{string_bytes}
use Rattle.html5ever.proofs.StepRuns.{nothing_left}
use Rattle.html5ever.proofs.Handing.{handed-more}
use Rattle.html5ever.proofs.tokenizer.whole.hand_in_pieces.Goals as goal

pub loop-piece-init : goal.loop-piece-init
loop-piece-init g c = (refl, search)

pub loop-piece-preserved : goal.loop-piece-preserved
loop-piece-preserved g c = (
  handed-more _ _ _ _ (string_bytes c.in-Some.piece) (rw c.in-Some.ensures.steps.0 at c.loop-piece.invariant.0) c.in-Ok.ensures.ok.text,
  (let short = ap length c.in-Some.ensures.steps.0 in
      let gone = c.in-Some.ensures.steps.1 in
      let was = c.loop-piece.invariant.1 in
      omega arith),
)

pub returns-clause-ok : goal.returns-clause-ok
returns-clause-ok g c =
    rw (← c.into_iter-piece-iterator.ensures.into_iter_gives.0)
    (sym (append-nil _) ∙ (rw (nothing_left _ (sym c.loop-piece.invariant.1 ∙ c.in-None.ensures.steps.0)) at c.loop-piece.invariant.0))
