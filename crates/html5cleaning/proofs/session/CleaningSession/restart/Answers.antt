use Rattle.std.proofs.Common.{ap, ◌∙◌}
use Rattle.html5cleaner.specs.Buffering.{Buffered}
use Rattle.html5sinks.specs.Runs.{RunSink}
use Rattle.html5session.specs.Intake.{page_again}
use Rattle.html5cleaning.specs.Cleaning.{CleaningOf, buffer_of}
use Rattle.html5cleaning.proofs.Calls.{starts_again}
use Rattle.html5cleaning.proofs.session.CleaningSession.restart.Goals as goal

pub returns : goal.returns
returns g c =
    starts_again c.into_policy.result _ c.into_parts-references.result.0 _ c.limit-limit.result _ c.args.self.intake c.page_decoder_again-page.result c.new-next.result c.set_limit.new.self c.set_page_decoder.new.self
    (c.into_policy.ensures ∙ ap (λ (b : Buffered). b.policy) c.into_inner.ensures
    ∙ ap (λ (k : RunSink Buffered). k.handler.policy) c.into_parts-references.ensures.sink ∙ ap (λ (s : CleaningOf). (buffer_of s).policy) c.self.view_is)
    (c.into_parts-references.ensures.references ∙ ap (λ (s : CleaningOf). s.references) c.self.view_is)
    (c.limit-limit.ensures ∙ ap (λ (s : CleaningOf). s.intake.limit) c.self.view_is)
    (c.page_decoder_again-page.ensures ∙ ap (λ (s : CleaningOf). page_again s.intake) c.self.view_is)
    c.new-next.ensures c.set_limit.ensures c.set_page_decoder.ensures
