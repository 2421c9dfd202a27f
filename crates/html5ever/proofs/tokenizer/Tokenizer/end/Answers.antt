use Rattle.std.proofs.lemmas.Result.{on_ok_weaker, IfErr-weaker}
use Rattle.html5ever.proofs.Standing.{StandsAt-finished, EndStops-at_end}
use Rattle.html5ever.proofs.ByItems.{finishes-items}
use Rattle.html5ever.proofs.tokenizer.Tokenizer.end.Goals as goal

pub returns-clause-finishes : goal.returns-clause-finishes
returns-clause-finishes g c =
    rw (← c.self.view_is)
    (on_ok_weaker c.emit_end-result.result
    (λ tells K s X stands. StandsAt-finished g.Sink.TokenSink.means _ K s X _ c.emit_end-result.ensures.fits tells stands)
    c.emit_end-result.ensures.ok)

pub returns-clause-items : goal.returns-clause-items
returns-clause-items g c =
    rw (← c.self.view_is)
    (on_ok_weaker c.emit_end-result.result
    (λ tells. finishes-items g.Sink.TokenSink.means _ _ c.table_laws.ensures
    (λ K s X stands. StandsAt-finished g.Sink.TokenSink.means _ K s X _ c.emit_end-result.ensures.fits tells stands))
    c.emit_end-result.ensures.ok)

pub returns-clause-stops : goal.returns-clause-stops
returns-clause-stops g c =
    rw (← c.self.view_is)
    (IfErr-weaker c.emit_end-result.result _ _
    (λ e stops K s X stands. EndStops-at_end g.Sink.TokenSink.means e _ K s _ X c.emit_end-result.ensures.fits stands stops)
    c.emit_end-result.ensures.err)
