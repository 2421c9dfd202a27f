use Rattle.std.proofs.Common.{◌∙◌, ap, sym, subst, length, map, arith}
use Rattle.std.proofs.lemmas.List.{nil_from_length}
use Rattle.std.specs.Vec.Iter.{into_iter_items}
use Rattle.html5places.specs.Marks.{placed_token}
use Rattle.html5places.specs.Placed.{handed_on}
use Rattle.html5places.proofs.HandingOn.{HandedSome, handed-all, handed-next, handed-none}
use Rattle.html5places.proofs.reading.hand_on.Goals as goal

pub loop-placed-init : goal.loop-placed-init
loop-placed-init g c = (handed-none g.H.PlacedHandler.step _ _, search)

pub loop-placed-preserved : goal.loop-placed-preserved
loop-placed-preserved g c = (
  handed-next g.H.PlacedHandler.step _ (g.H.PlacedHandler.state c.loop-placed.handler) _ _ _ (placed_token c.in-Some.placed) c.as_str.result.now
      (subst (λ l. HandedSome g.H.PlacedHandler.step (g.H.PlacedHandler.state c.args.handler.now) (g.H.PlacedHandler.state c.loop-placed.handler)
      (map placed_token (into_iter_items c.into_iter-placed-iterator.result)) (map placed_token l)) c.in-Some.ensures.steps.0 c.loop-placed.invariant.0)
      c.as_str.ensures.value
      c.in-Ok.ensures.steps,
  (let short = ap length c.in-Some.ensures.steps.0 in
      let gone = c.in-Some.ensures.steps.1 in
      let was = c.loop-placed.invariant.1 in
      omega arith),
)

pub returns-clause-all : goal.returns-clause-all
returns-clause-all g c =
    let none = nil_from_length (into_iter_items c.loop-placed.placed-iterator) (sym c.loop-placed.invariant.1 ∙ c.in-None.ensures.steps.0) in
    handed-all g.H.PlacedHandler.step _ _ _ (rw none at c.loop-placed.invariant.0)
    ∙ ap (λ l. handed_on g.H.PlacedHandler.step (g.H.PlacedHandler.state c.args.handler.now) (map placed_token l)) c.into_iter-placed-iterator.ensures.into_iter_gives.0
