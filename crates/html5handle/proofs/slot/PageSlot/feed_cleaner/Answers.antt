-- The status is split from what the session's call says, which the tactic doesn't find through the option of a page.
use Rattle.std.proofs.Common.{ℕ, Option, Some, Result, length, refl, sym, ◌∙◌, subst}
use Rattle.std.specs.Prelude.{IfErr, OnOk}
use Rattle.html5handle.specs.CleanerCalls.{CleanerFeeds, CleanerFeedSays}
use Rattle.html5handle.proofs.CleanerStatuses.{feed_says-done, feed_says-error, feed_says-limit}
use Rattle.html5handle.proofs.Going.{answered_going, not_past, past, refused_over}
use Rattle.html5cleaning.specs.Cleaning.{CleaningOf, FeedRefused, FeedsPiece, fits_in}
use Rattle.html5session.specs.Session.{is_over}
use Rattle.html5session.specs.declared.error.SessionError.{SessionError}
use Rattle.html5session.specs.declared.error.SessionError.TheVariants.{Over}
use Rattle.html5handle.proofs.slot.PageSlot.feed_cleaner.Goals as goal

pub returns-then-goes_past_limit-clause-feeds : goal.returns-then-goes_past_limit-clause-feeds
returns-then-goes_past_limit-clause-feeds c =
    let s = c.in-Some.session in let bytes = c.args.bytes.now in
    let is = past (is_over s) (fits_in s (length bytes)) (sym c.goes_past_limit.ensures ∙ c.if-goes_past_limit.true) in
    subst (λ (o : Option CleaningOf). CleanerFeeds o (Some s) bytes 14) (sym (sym c.take_cleaner.ensures.session ∙ c.in-Some.is))
    (feed_says-limit s s bytes is.0 is.1 refl)

pub returns-in-Ok-clause-feeds : goal.returns-in-Ok-clause-feeds
returns-in-Ok-clause-feeds c =
    let s = c.in-Some.session in let t = c.feed-session.result.0 in let bytes = c.args.bytes.now in
    let feeds = subst (λ (r : Result (Unit {0}) SessionError). OnOk r (FeedsPiece s t bytes)) c.in-Ok.is c.feed-session.ensures.feeds in
    let going = answered_going c.feed-session.result.1 _ Over (is_over s) c.in-Ok.is c.feed-session.ensures.over in
    let room = not_past (is_over s) (fits_in s (length bytes)) (sym c.goes_past_limit.ensures ∙ c.if-goes_past_limit.false) going in
    subst (λ (o : Option CleaningOf). CleanerFeeds o (Some t) bytes 0) (sym (sym c.take_cleaner.ensures.session ∙ c.in-Some.is))
    (feed_says-done s t bytes feeds going room)

pub returns-in-Err-clause-feeds : goal.returns-in-Err-clause-feeds
returns-in-Err-clause-feeds c =
    let s = c.in-Some.session in let t = c.feed-session.result.0 in let bytes = c.args.bytes.now in
    let refused = subst (λ (r : Result (Unit {0}) SessionError). IfErr r (λ error. FeedRefused s t bytes error)) c.in-Err.is c.feed-session.ensures.refused in
    subst (λ (o : Option CleaningOf). CleanerFeeds o (Some t) bytes c.status_of_error.result) (sym (sym c.take_cleaner.ensures.session ∙ c.in-Some.is))
    (subst (λ (n : ℕ). CleanerFeedSays s t bytes n) (sym c.status_of_error.ensures) (feed_says-error s t bytes c.in-Err.error refused
    (refused_over c.feed-session.result.1 c.in-Err.error Over (is_over s) c.in-Err.is c.feed-session.ensures.over)
    (not_past (is_over s) (fits_in s (length bytes)) (sym c.goes_past_limit.ensures ∙ c.if-goes_past_limit.false))))
