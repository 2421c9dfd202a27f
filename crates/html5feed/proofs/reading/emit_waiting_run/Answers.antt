use Rattle.std.proofs.Common.{◌≡◌, ◌∙◌, sym, ap, take}
use Rattle.std.specs.Prelude.{encode_utf8_all}
use Rattle.std.specs.Str.{chars}
use Rattle.std.proofs.lemmas.Str.{encodes-chars, IsCharBoundary-from_drop}
use Rattle.markup5ever.proofs.BufferQueueLemmas.{range_from_start}
use Rattle.html5feed.proofs.QueueReading.{ReadsRun-text}
use Rattle.html5feed.proofs.RunLemmas.{no_returns}
use Rattle.html5feed.proofs.reading.emit_waiting_run.Goals as goal

pub range-requires-clause-end_boundary : goal.range-requires-clause-end_boundary
range-requires-clause-end_boundary g c =
    rw c.front_text.ensures (IsCharBoundary-from_drop _ c.args.bytes c.requires.within c.requires.rest_utf8)

pub emit_run-told-requires-clause-no_carriage_return : goal.emit_run-told-requires-clause-no_carriage_return
emit_run-told-requires-clause-no_carriage_return g c =
    let text = encode_utf8_all c.args.queue.now.text in
    let cut : c.range.result.now ≡ take c.args.bytes text = c.range.ensures.value ∙ range_from_start c.front_text.result.now c.args.bytes ∙ ap (take c.args.bytes) c.front_text.ensures in
    rw cut (no_returns c.args.position.now.opened (chars (take c.args.bytes text)) c.requires.is_run.is_run)

pub returns-clause-reads : goal.returns-clause-reads
returns-clause-reads g c =
    let text = encode_utf8_all c.args.queue.now.text in
    let run = chars (take c.args.bytes text) in
    let cut : c.range.result.now ≡ take c.args.bytes text = c.range.ensures.value ∙ range_from_start c.front_text.result.now c.args.bytes ∙ ap (take c.args.bytes) c.front_text.ensures in
    ReadsRun-text g.S.TokenSink.means c.args.rules.now c.emit_run-told.result g.met.S.TokenSink.keeps_on c.args.position.now _ _ _ _ _
    run c.range.result.now c.requires.is_run c.requires.nothing_open c.requires.fits c.skip.ensures
    (sym (encodes-chars c.range.result.now c.range.utf8) ∙ ap (λ bytes. encode_utf8_all (chars bytes)) cut)
    c.emit_run-told.ensures.tells c.emit_run-told.ensures.opened c.emit_run-told.ensures.last (rw cut at c.emit_run-told.ensures.input)
