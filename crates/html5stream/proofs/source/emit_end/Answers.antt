use Rattle.html5stream.proofs.Streaming.{StopsAtEnd-end}
use Rattle.html5stream.proofs.source.emit_end.Goals as goal

pub returns-in-Err-clause-stops : goal.returns-in-Err-clause-stops
returns-in-Err-clause-stops g c =
    rw c.error_of.ensures.error
    (StopsAtEnd-end g.S.TokenSink.means
    c.in-Err.error c.args.tokenizer.now _ c.in-Err.ensures.stops)
