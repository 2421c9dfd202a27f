use Rattle.std.proofs.Common.{sym, ap, string_bytes, Ok}
use Rattle.html5feed.specs.Feed.{reply_in}
use Rattle.html5session.proofs.Calls.{done_of, feeds_text, stops_text}
use Rattle.html5session.proofs.intake.feed_text.Goals as goal

pub returns-in-Ok-clause-feeds : goal.returns-in-Ok-clause-feeds
returns-in-Ok-clause-feeds g c =
    let fed = c.in-Ok.ensures in
    feeds_text g.S.TokenSink.means c.args.detached c.detach-detached.result c.args.references.now c.attach-tokenizer.result c.feed-answer.new.self _ _
    (reply_in string_bytes c.in-Ok.answer) c.attach-tokenizer.ensures fed.rules c.detach-detached.ensures.whole fed.reads fed.items
    (λ is. fed.done (ap Ok (done_of string_bytes c.in-Ok.answer is)))
    (λ other. fed.shorter (λ is. other (ap (reply_in string_bytes) is)))
    (λ other. fed.paused (λ is. other (ap (reply_in string_bytes) is)))
    fed.failed fed.going_on

pub returns-in-Err-clause-stops : goal.returns-in-Err-clause-stops
returns-in-Err-clause-stops g c =
    stops_text g.S.TokenSink.means c.attach-tokenizer.result _ _ _ c.in-Err.field-0 _ _ c.attach-tokenizer.ensures
    (ap g.S.TokenSink.means.state (sym c.detach-detached.ensures.sink)) c.in-Err.ensures.stops
