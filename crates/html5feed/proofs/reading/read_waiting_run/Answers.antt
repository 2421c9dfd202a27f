use Rattle.std.proofs.Common.{◌≡◌, ◌∙◌, sym, ap, take, length, length-append, arith}
use Rattle.std.specs.Prelude.{encode_utf8_all}
use Rattle.std.specs.Str.{chars}
use Rattle.std.proofs.lemmas.Str.{IsCharBoundary-from_drop}
use Rattle.markup5ever.proofs.BufferQueueLemmas.{range_from_start}
use Rattle.html5feed.specs.Refused.{IsRun}
use Rattle.html5feed.proofs.QueueReading.{ReadsRun-none, ReadsRun-open}
use Rattle.html5feed.proofs.reading.read_waiting_run.Goals as goal

pub returns-then-begins_in_markup-clause-reads : goal.returns-then-begins_in_markup-clause-reads
returns-then-begins_in_markup-clause-reads g c = ReadsRun-none g.S.TokenSink.means c.args.rules.now _ c.args.position.now c.args.queue.now (g.S.TokenSink.means.state c.args.sink.now)

pub returns-then-bytes-eq0-clause-reads : goal.returns-then-bytes-eq0-clause-reads
returns-then-bytes-eq0-clause-reads g c = ReadsRun-none g.S.TokenSink.means c.args.rules.now _ c.args.position.now c.args.queue.now (g.S.TokenSink.means.state c.args.sink.now)

pub range-requires-clause-end_boundary : goal.range-requires-clause-end_boundary
range-requires-clause-end_boundary g c =
    let same : c.front_text-3.result.now ≡ c.front_text-2.result.now = c.front_text-3.ensures ∙ sym c.front_text-2.ensures in
    rw same (IsCharBoundary-from_drop c.front_text-2.result.now c.run_len-bytes.result c.run_len-bytes.ensures.within c.run_len-bytes.ensures.rest_utf8)

pub returns-clause-reads : goal.returns-clause-reads
returns-clause-reads g c =
    let bytes = c.run_len-bytes.result in
    let text = encode_utf8_all c.args.queue.now.text in
    let cut : c.range.result.now ≡ take bytes text = c.range.ensures.value ∙ range_from_start c.front_text-3.result.now bytes ∙ ap (take bytes) c.front_text-3.ensures in
    let run : IsRun c.args.rules.now c.args.position.now (chars (take bytes text)) = rw c.front_text-2.ensures at (c.run_len-bytes.ensures.run c.if-bytes-eq0.false) in
    ReadsRun-open g.S.TokenSink.means c.args.rules.now c.push_run-read.result g.met.S.TokenSink.keeps_on c.args.position.now _ _ _ _ (chars (take bytes text))
    run (sym c.nothing_open.ensures ∙ c.if-nothing_open.false) (c.run_len-bytes.ensures.fits c.if-bytes-eq0.false) c.skip.ensures c.push_run-read.ensures.memory (rw cut at c.push_run-read.ensures.opened) c.push_run-read.ensures.last c.push_run-read.ensures.input

pub returns-clause-empty : goal.returns-clause-empty
returns-clause-empty g c = λ nothing.
    let none : length c.front_text-2.result.now ≡ 0 = ap length (c.front_text-2.ensures ∙ ap encode_utf8_all nothing) in
    absurd (c.if-bytes-eq0.false (omega (arith, c.run_len-bytes.ensures.within, none)))

pub returns-clause-held : goal.returns-clause-held
returns-clause-held g c =
    let left = ap length c.skip.ensures.text in
    let parts = length-append (chars (take c.run_len-bytes.result (encode_utf8_all c.args.queue.now.text))) c.skip.new.self.text in
    omega (arith, c.push_run-read.ensures.held, left, parts)
