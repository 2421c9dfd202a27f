use Rattle.std.proofs.Common.{ap, ◌∙◌}
use Rattle.html5ever.specs.Tokenizer.{Tokenizing}
use Rattle.html5ever.proofs.Standing.{StandsAt-plain}
use Rattle.html5ever.proofs.tokenizer.Tokenizer.set_plaintext_state.Goals as goal

pub returns-clause-anew : goal.returns-clause-anew
returns-clause-anew g c = λ x.
    StandsAt-plain g.Sink.TokenSink.means _ c.args.self.now.position c.set_plaintext.ensures.opened (c.set_plaintext.ensures.last ∙ ap (λ (t : Tokenizing _). t.position.last_start_tag) c.self.view_is) (c.set_plaintext.ensures.input ∙ ap (λ (t : Tokenizing _). t.position.input) c.self.view_is)
    (rw (← c.self.view_is) at c.requires.not_failed) (rw (← c.self.view_is) at c.requires.going_on)
