use Rattle.std.proofs.Common.{◌∙◌, ap, sym}
use Rattle.html5ever.specs.Tokenizer.{Tokenizing}
use Rattle.html5ever.proofs.Standing.{StandsAt-anew}
use Rattle.html5ever.proofs.tokenizer.Tokenizer.nothing_pending.Goals as goal

pub returns-clause-anew : goal.returns-clause-anew
returns-clause-anew g c = λ pending x.
    StandsAt-anew g.Sink.TokenSink.means c.args.self.now x
    (sym (ap (λ (t : Tokenizing _). t.failed) c.self.view_is) ∙ c.if-self.false)
    (sym (ap (λ (t : Tokenizing _). t.ended) c.self.view_is) ∙ c.if-self-2.false)
