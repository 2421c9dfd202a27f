use Rattle.std.proofs.Common.{[], subst}
use Rattle.html5reading.specs.Reading.{all_messages}
use Rattle.html5ever.specs.Tokenizer.{EndStops}
use Rattle.std.proofs.lemmas.Result.{err_from_is_err_and, IfErr-weaker}
use Rattle.html5ever.proofs.Wholes.{whole-feed_stops, whole-end_stops}
use Rattle.html5ever.proofs.tokenizer.whole.read_waiting.Goals as goal

pub returns-in_err-feed_until_done-clause-stops : goal.returns-in_err-feed_until_done-clause-stops
returns-in_err-feed_until_done-clause-stops g c =
    let p = err_from_is_err_and c.from_residual.result c.from_residual.ensures.1 in
    rw (p.1, p.2) (λ K s stands.
    whole-feed_stops g.S.TokenSink.means _ c.args.tokenizer.now K s _ _ stands
    (c.in_err-feed_until_done.ensures.stops K s [] stands))

pub returns-clause-stops : goal.returns-clause-stops
returns-clause-stops g c =
    IfErr-weaker c.end.result _ _
    (λ e stops K s stands.
    let standing = c.in_ok-feed_until_done.ensures.reads K s [] stands in
    subst (λ x. EndStops g.S.TokenSink.means e s (all_messages g.S.TokenSink.means x K s c.args.queue.now.text) (g.S.TokenSink.means.state c.end.new.self.sink)) c.in_ok-feed_until_done.ensures.rules
    (whole-end_stops g.S.TokenSink.means e c.feed_until_done.new.tokenizer K s (g.S.TokenSink.means.state c.end.new.self.sink) c.args.queue.now.text standing
    (stops K s c.args.queue.now.text standing)))
    c.end.ensures.stops
