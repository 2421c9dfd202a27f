use Rattle.std.proofs.Common.{string_bytes}
use Rattle.std.specs.Str.{chars}
use Rattle.std.proofs.lemmas.Result.{err_from_is_err_and}
use Rattle.html5stream.proofs.Streaming.{StopsTelling-feed, StopsTelling-memory}
use Rattle.html5stream.proofs.source.feed_text.Goals as goal

pub returns-in_err-hand_in-clause-stops : goal.returns-in_err-hand_in-clause-stops
returns-in_err-hand_in-clause-stops g c =
    let p = err_from_is_err_and c.from_residual.result c.from_residual.ensures.1 in
    rw (p.1, p.2, c.in_err-hand_in.ensures.err)
    (StopsTelling-memory g.S.TokenSink.means
    c.args.tokenizer.now (chars (string_bytes c.args.text)))

pub returns-in-Err-clause-stops : goal.returns-in-Err-clause-stops
returns-in-Err-clause-stops g c =
    rw c.error_of.ensures.error
    (StopsTelling-feed g.S.TokenSink.means
    c.in-Err.error c.args.tokenizer.now c.hand_in.new.queue.text (chars (string_bytes c.args.text)) _ c.in_ok-hand_in.ensures.ok c.in-Err.ensures.stops)
