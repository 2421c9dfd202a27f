use Rattle.std.proofs.lemmas.Result.{on_ok_weaker}
use Rattle.html5stream.proofs.Streaming.{FinishesText-end, StopsText-result}
use Rattle.html5stream.proofs.source.read_all.Goals as goal

pub returns-clause-finishes : goal.returns-clause-finishes
returns-clause-finishes g c =
    on_ok_weaker c.emit_end.result
    (λ finishes. FinishesText-end g.S.TokenSink.means
    _ _ _ _ _ c.in_ok-read_text.ensures.takes finishes)
    c.emit_end.ensures.finishes

pub returns-clause-stops : goal.returns-clause-stops
returns-clause-stops g c =
    StopsText-result g.S.TokenSink.means
    c.emit_end.result _ _ _ _ _ c.in_ok-read_text.ensures.takes c.emit_end.ensures.stops c.emit_end.ensures.text_error c.emit_end.ensures.read
