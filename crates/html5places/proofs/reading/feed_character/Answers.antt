use Rattle.std.proofs.Common.{◌++◌, ◌∙◌, ap, refl, subst}
use Rattle.std.specs.Str.{chars}
use Rattle.html5ever.specs.Tokenizer.{ReadsOn}
use Rattle.html5partial.proofs.HeldLetters.{chars-one}
use Rattle.html5places.proofs.OneCharacter.{character-read, sink_means}
use Rattle.html5places.proofs.reading.feed_character.Goals as goal

pub returns-clause-reads : goal.returns-clause-reads
returns-clause-reads g c =
    let place = ap (λ n. n) c.place_of.ensures in
    let text = c.in-Ok.ensures.ok.text ∙ ap (λ l. l ++ chars c.encode_utf8.result.now) c.requires.nothing_waits ∙ ap chars c.encode_utf8.ensures.value ∙ chars-one c.args.c c.ranges.c.0 in
    character-read c.args.tokenizer.now c.stand_at.new.tokenizer c.feed_until_done.new.tokenizer c.begin_markup.new.tokenizer c.args.c
    (record {
      position = ap (λ t. t.position) c.stand_at.ensures;
      rules = ap (λ t. t.rules) c.stand_at.ensures;
      not_failed = ap (λ t. t.failed) c.stand_at.ensures ∙ c.requires.not_failed;
      not_ended = ap (λ t. t.ended) c.stand_at.ensures ∙ c.requires.going_on;
      handler = ap (λ t. t.sink.handler) c.stand_at.ensures;
      marks =
          ap (λ t. t.sink.marks) c.stand_at.ensures
          ∙ ap (λ n. record c.args.tokenizer.now.sink.marks { from = c.args.tokenizer.now.sink.marks.to; to = n }) (rw (place, c.len_utf8.ensures.len) refl);
    })
    c.in-Ok-feed_until_done.ensures.rules
    (subst (λ l. ReadsOn sink_means c.stand_at.new.tokenizer c.feed_until_done.new.tokenizer l) text c.in-Ok-feed_until_done.ensures.reads)
    (ap (λ t. t.position) c.begin_markup.ensures)
    (ap (λ t. t.rules) c.begin_markup.ensures)
    (ap (λ t. t.sink.handler) c.begin_markup.ensures)
    (ap (λ t. t.sink.marks) c.begin_markup.ensures)
