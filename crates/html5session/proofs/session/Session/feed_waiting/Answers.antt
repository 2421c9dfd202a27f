use Rattle.std.proofs.Common.{ap, string_bytes, ◌∙◌}
use Rattle.html5feed.specs.Feed.{reply_in}
use Rattle.html5session.specs.Session.{is_over}
use Rattle.html5session.proofs.Calls.{goes_on, text_feeds, text_stops}
use Rattle.html5session.proofs.session.Session.feed_waiting.Goals as goal

pub feed-detached-requires-clause-going_on : goal.feed-detached-requires-clause-going_on
feed-detached-requires-clause-going_on g c = (goes_on _ _ _ (ap is_over c.self.view_is ∙ c.requires)).2

pub feed-detached-requires-clause-not_failed : goal.feed-detached-requires-clause-not_failed
feed-detached-requires-clause-not_failed g c = (goes_on _ _ _ (ap is_over c.self.view_is ∙ c.requires)).1

pub returns-clause-feeds : goal.returns-clause-feeds
returns-clause-feeds g c =
    text_feeds g.S.TokenSink.means c.feed-detached.result.1 (reply_in string_bytes) _ _ _ _ c.self.view_is c.feed-detached.ensures.feeds

pub returns-clause-stops : goal.returns-clause-stops
returns-clause-stops g c = text_stops g.S.TokenSink.means c.feed-detached.result.1 _ _ _ _ c.self.view_is c.feed-detached.ensures.stops
