use Rattle.std.proofs.Common.{refl, ◌∙◌, ◌++◌, ap, arith, length, map}
use Rattle.std.proofs.lemmas.List.{append_assoc}
use Rattle.std.proofs.lemmas.Result.{err_from_is_err_and}
use Rattle.std.specs.Str.{chars}
use Rattle.std.specs.String.{string_bytes}
use Rattle.std.specs.Vec.Iter.{into_iter_items}
use Rattle.html5ever.specs.Pieces.{text_of}
use Rattle.html5ever.proofs.FeedingPieces.{HasFed-none, HasFed-more, HasFed-linear, HasFed-stops, HasFed-no_room}
use Rattle.html5ever.proofs.tokenizer.pieces.feed_each.Goals as goal

pub loop-piece-init : goal.loop-piece-init
loop-piece-init g c = (
  HasFed-none g.S.TokenSink.means c.args.tokenizer.now c.args.queue.now _,
  c.requires.going_on,
  c.requires.not_failed,
  refl,
  search,
)

pub loop-piece-preserved : goal.loop-piece-preserved
loop-piece-preserved g c = (
  HasFed-more g.S.TokenSink.means
      c.args.tokenizer.now c.loop-piece.tokenizer c.feed_until_done.new.tokenizer c.args.queue.now c.loop-piece.queue c.push_back.new.self c.feed_until_done.new.queue
      _ (map string_bytes (into_iter_items c.next.new.self)) (string_bytes c.in-Some.piece)
      (rw c.in-Some.ensures.steps.0 at c.loop-piece.invariant.0) c.in-Ok.ensures.ok
      c.in_ok-feed_until_done.ensures.reads c.in_ok-feed_until_done.ensures.taken c.in_ok-feed_until_done.ensures.rules
      c.in_ok-feed_until_done.ensures.queue.linear c.in_ok-feed_until_done.ensures.queue.handed_in,
  c.in_ok-feed_until_done.ensures.going_on,
  c.in_ok-feed_until_done.ensures.failed,
  omega (arith, c.in_ok-feed_until_done.ensures.faults, c.loop-piece.invariant.3),
  (let short = ap length c.in-Some.ensures.steps.0 in
      let gone = c.in-Some.ensures.steps.1 in
      let was = c.loop-piece.invariant.4 in
      omega arith),
)

pub returns-in_default-clause-stops : goal.returns-in_default-clause-stops
returns-in_default-clause-stops g c =
    rw (← c.into_iter-piece-iterator.ensures.into_iter_gives.0)
    (HasFed-no_room g.S.TokenSink.means
    c.args.tokenizer.now c.loop-piece.tokenizer c.args.queue.now c.loop-piece.queue _ _ c.loop-piece.invariant.0)

pub returns-in_err-feed_until_done-clause-stops : goal.returns-in_err-feed_until_done-clause-stops
returns-in_err-feed_until_done-clause-stops g c =
    let p = err_from_is_err_and c.from_residual.result c.from_residual.ensures.1 in
    rw (p.1, p.2, ← c.into_iter-piece-iterator.ensures.into_iter_gives.0)
    (HasFed-stops g.S.TokenSink.means _
    c.args.tokenizer.now c.loop-piece.tokenizer c.args.queue.now c.loop-piece.queue _ _ c.push_back.new.self.text (text_of (map string_bytes (into_iter_items c.next.new.self))) _
    (rw c.in-Some.ensures.steps.0 at c.loop-piece.invariant.0)
    (ap (λ l. l ++ text_of (map string_bytes (into_iter_items c.next.new.self))) c.in-Ok.ensures.ok.text
    ∙ append_assoc c.loop-piece.queue.text (chars (string_bytes c.in-Some.piece)) _)
    c.in_err-feed_until_done.ensures.stops)

pub returns-in_err-feed_until_done-clause-linear : goal.returns-in_err-feed_until_done-clause-linear
returns-in_err-feed_until_done-clause-linear g c =
    HasFed-linear g.S.TokenSink.means
    c.args.tokenizer.now c.loop-piece.tokenizer c.args.queue.now c.loop-piece.queue c.push_back.new.self c.feed_until_done.new.queue _ _ (string_bytes c.in-Some.piece) _
    c.loop-piece.invariant.0 c.in-Ok.ensures.ok c.feed_until_done.ensures.queue.linear c.feed_until_done.ensures.queue.handed_in
