use Rattle.std.proofs.Common.{ap, sym, subst, ◌∙◌}
use Rattle.std.specs.Prelude.{IfErr}
use Rattle.std.proofs.lemmas.Bool.{false≢true}
use Rattle.std.proofs.lemmas.Result.{IfErr-weaker, IfOk-weaker}
use Rattle.html5session.specs.Session.{is_over}
use Rattle.html5session.specs.declared.error.SessionError.TheVariants.{Over}
use Rattle.html5cleaning.specs.Cleaning.{CleaningOf, FeedRefused, FeedsPiece}
use Rattle.html5cleaning.proofs.Calls.{at_once-feed, done_err, done_ok, done_over, feed_ok, feed_refused}
use Rattle.html5cleaning.proofs.session.CleaningSession.feed.Goals as goal

pub invariant_of-result : goal.invariant_of-result
invariant_of-result g c =
    let going = sym c.is_over.ensures ∙ c.if-is_over.false in
    at_once-feed c.feed-session.result.1 _ _ _ going (c.self.invariant going) c.feed-session.ensures.feeds c.feed-session.ensures.refused

pub returns-clause-feeds : goal.returns-clause-feeds
returns-clause-feeds g c =
    let going = sym c.is_over.ensures ∙ c.if-is_over.false in
    done_ok c.feed-session.result.1 c.done.result (FeedsPiece c.args.self c.feed-session.result.0 c.args.bytes.now) c.done.ensures.err
    (IfOk-weaker c.feed-session.result.1 _ _ (λ answer feeds. feed_ok answer _ _ _ _ c.self.view_is going (c.self.invariant going) feeds) c.feed-session.ensures.feeds)

pub returns-clause-refused : goal.returns-clause-refused
returns-clause-refused g c =
    let going = sym c.is_over.ensures ∙ c.if-is_over.false in
    done_err c.feed-session.result.1 c.done.result _ c.done.ensures.ok c.done.ensures.err
    (subst (λ (w : CleaningOf). IfErr c.feed-session.result.1 (λ error. FeedRefused w c.feed-session.result.0 c.args.bytes.now error)) c.self.view_is
    (IfErr-weaker c.feed-session.result.1 _ _ (λ error refused. feed_refused _ _ _ error going (c.self.invariant going) refused) c.feed-session.ensures.refused))

pub returns-clause-over : goal.returns-clause-over
returns-clause-over g c =
    let going = sym c.is_over.ensures ∙ c.if-is_over.false in (
      λ is. sym (ap is_over c.self.view_is) ∙ c.feed-session.ensures.over.0 (done_over c.feed-session.result.1 c.done.result Over c.done.ensures.ok c.done.ensures.err is),
      λ was. absurd (false≢true (sym going ∙ ap is_over c.self.view_is ∙ was)),
    )
