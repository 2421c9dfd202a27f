-- The status is split from what the session's call says.
use Rattle.std.proofs.Common.{ℕ, Result, sym, subst, ◌∙◌}
use Rattle.std.specs.Prelude.{IfErr}
use Rattle.html5handle.specs.PlacedCalls.{PlacedFeedSays}
use Rattle.html5handle.proofs.PlacedStatuses.{feed_says-error}
use Rattle.html5placed.specs.PlacedSessions.{FeedRefused}
use Rattle.html5session.specs.declared.error.SessionError.{SessionError}
use Rattle.html5handle.proofs.placed_slot.feed_page.Goals as goal

pub returns-in-Err : goal.returns-in-Err
returns-in-Err c =
    let s = c.args.session in let t = c.feed-session.result.0 in let bytes = c.args.bytes.now in
    let refused = subst (λ (r : Result (Unit {0}) SessionError). IfErr r (λ error. FeedRefused s t bytes error)) c.in-Err.is c.feed-session.ensures.refused in
    subst (λ (n : ℕ). PlacedFeedSays s t bytes n) (sym c.status_of_error.ensures)
    (feed_says-error s t bytes c.in-Err.error refused (sym c.is_over.ensures ∙ c.if-is_over.false) (sym c.has_room.ensures ∙ c.if-not-has_room.false)
    c.feed-session.ensures.rules (record { references = c.feed-session.ensures.references; limit = c.feed-session.ensures.limit }) c.feed-session.ensures.on)
