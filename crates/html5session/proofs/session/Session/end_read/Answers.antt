use Rattle.std.proofs.Common.{ap, ◌∙◌}
use Rattle.html5session.specs.Session.{is_over}
use Rattle.html5session.proofs.Calls.{ends_session, goes_on, loses_end}
use Rattle.html5session.proofs.session.Session.end_read.Goals as goal

pub end_text-detached-requires-clause-going_on : goal.end_text-detached-requires-clause-going_on
end_text-detached-requires-clause-going_on g c = (goes_on _ _ _ (ap is_over c.self.view_is ∙ c.requires.going_on)).2

pub end_text-detached-requires-clause-not_failed : goal.end_text-detached-requires-clause-not_failed
end_text-detached-requires-clause-not_failed g c = (goes_on _ _ _ (ap is_over c.self.view_is ∙ c.requires.going_on)).1

pub returns-clause-ends : goal.returns-clause-ends
returns-clause-ends g c =
    ends_session g.S.TokenSink.means c.end_text-detached.result.1 _ _ c.end_text-detached.result.0 _ _ c.requires.going_on c.requires.read c.self.view_is
    c.set_lost.ensures c.is_err.ensures.value c.end_text-detached.ensures.ends c.end_text-detached.ensures.ended

pub returns-clause-refused : goal.returns-clause-refused
returns-clause-refused g c =
    loses_end g.S.TokenSink.means c.end_text-detached.result.1 _ _ c.end_text-detached.result.0 _ _ c.requires.read c.self.view_is
    c.set_lost.ensures c.is_err.ensures.value c.end_text-detached.ensures.stops
