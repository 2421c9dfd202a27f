use Rattle.std.proofs.Common.{◌≡◌, ap, ◌∙◌}
use Rattle.html5cleaner.specs.Buffering.{Buffered, buffer_start}
use Rattle.html5sinks.specs.Runs.{RunSink}
use Rattle.html5stream.specs.Pages.{runs_start}
use Rattle.html5cleaning.proofs.Fed.{fed_none}
use Rattle.html5cleaning.proofs.session.CleaningSession.new.Goals as goal

pub returns : goal.returns
returns g c =
    let said = c.new-2.ensures in
    let buffer : c.new-2.result.detached.sink.handler ≡ buffer_start c.args.policy 0 =
    ap (λ (k : RunSink Buffered). k.handler) said.sink ∙ c.new-sink.ensures.handler ∙ c.new.ensures in
    record {
      fed = fed_none c.args.policy c.args.references c.new-2.result _ c.new-sink.result said.intake c.default.ensures said.stands
          (rw (c.new-sink.ensures.handler, c.new-sink.ensures.run, c.new-sink.ensures.foreign) (ap runs_start c.new.ensures))
          (ap (λ (b : Buffered). b.out.taken) buffer) said.rules;
      buffer = buffer;
      table = said.references;
      intake = said.intake;
      going_on = said.going_on;
    }
