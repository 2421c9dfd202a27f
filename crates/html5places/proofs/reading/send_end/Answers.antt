use Rattle.std.proofs.Common.{◌∙◌, ap, refl}
use Rattle.html5places.proofs.OneCharacter.{end-read}
use Rattle.html5places.proofs.reading.send_end.Goals as goal

pub returns-in-Ok-clause-reads : goal.returns-in-Ok-clause-reads
returns-in-Ok-clause-reads g c =
    end-read c.args.tokenizer.now c.stand_at.new.tokenizer c.end.new.self
    (record {
      position = ap (λ t. t.position) c.stand_at.ensures;
      rules = ap (λ t. t.rules) c.stand_at.ensures;
      not_failed = ap (λ t. t.failed) c.stand_at.ensures ∙ c.requires.not_failed;
      not_ended = ap (λ t. t.ended) c.stand_at.ensures ∙ c.requires.going_on;
      handler = ap (λ t. t.sink.handler) c.stand_at.ensures;
      marks = ap (λ t. t.sink.marks) c.stand_at.ensures ∙ rw c.place_of-end.ensures refl;
    })
    c.in-Ok.ensures.finishes
