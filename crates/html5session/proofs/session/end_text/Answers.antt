use Rattle.std.proofs.Common.{sym, ap}
use Rattle.html5session.proofs.Calls.{ends_text, stops_end}
use Rattle.html5session.proofs.session.end_text.Goals as goal

pub returns-in-Ok-clause-ends : goal.returns-in-Ok-clause-ends
returns-in-Ok-clause-ends g c =
    ends_text g.S.TokenSink.means c.attach-tokenizer.result _ _ _ c.attach-tokenizer.ensures (ap g.S.TokenSink.means.state (sym c.detach-detached.ensures.sink))
    c.in-Ok.ensures.finishes c.in-Ok.ensures.items

pub returns-in-Err-clause-stops : goal.returns-in-Err-clause-stops
returns-in-Err-clause-stops g c =
    stops_end g.S.TokenSink.means c.attach-tokenizer.result _ c.in-Err.field-0 _ _ c.attach-tokenizer.ensures
    (ap g.S.TokenSink.means.state (sym c.detach-detached.ensures.sink)) c.in-Err.ensures.stops
