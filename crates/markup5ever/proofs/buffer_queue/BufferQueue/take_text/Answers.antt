use Rattle.std.proofs.Common.{◌≡◌, ◌+◌, [], length, encode_utf8_all, sym, ap, ◌∙◌}
use Rattle.std.specs.Str.{chars}
use Rattle.std.specs.String.{string_bytes}
use Rattle.std.proofs.lemmas.Str.{IsCharBoundary-from_drop}
use Rattle.markup5ever.specs.BufferQueue.{TextQueue}
use Rattle.markup5ever.proofs.BufferQueueLemmas.{takes_bytes, whole_run, whole_text, past_whole_text}
use Rattle.markup5ever.proofs.buffer_queue.BufferQueue.take_text.Goals as goal

pub returns-then-bytes-len-clause-bytes : goal.returns-then-bytes-len-clause-bytes
returns-then-bytes-len-clause-bytes g c =
    let q = c.self.inside in
    let whole = c.if-bytes-len.true ∙ c.len.ensures ∙ q.text.bytes.ok.0 in
    ap string_bytes c.replace.ensures.value ∙ whole_text (string_bytes q.text) c.args.self.now.text q.offset c.args.bytes c.self.invariant (ap (λ (t : TextQueue). t.text) c.self.view_is) c.if-self-eq0.true whole

pub returns-then-bytes-len-clause-takes : goal.returns-then-bytes-len-clause-takes
returns-then-bytes-len-clause-takes g c =
    let q = c.self.inside in
    let old = c.args.self.now in
    let run = string_bytes q.text in
    let text_is = ap (λ (t : TextQueue). t.text) c.self.view_is in
    let whole = c.if-bytes-len.true ∙ c.len.ensures ∙ q.text.bytes.ok.0 in
    let run_is = whole_run run q.offset c.args.bytes c.if-self-eq0.true whole in
    let none : string_bytes c.replace.new.dest ≡ [] = ap string_bytes c.replace.ensures.after ∙ c.new-empty.ensures.bytes in
    let rest_is = past_whole_text run (string_bytes c.replace.new.dest) q.offset c.args.bytes none whole in
    let counted : c.with_chars-self-inside.result.total ≡ q.taken.total + length (chars run) = c.with_chars-self-inside.ensures ∙ ap (λ bs. q.taken.total + length (chars bs)) c.deref.ensures in
    let taken : c.with_chars-self-inside.result.total ≡ old.taken + length (chars run) = counted ∙ ap (λ (t : TextQueue). t.taken + length (chars run)) c.self.view_is in
    takes_bytes old _ run run q.offset c.args.bytes c.self.invariant text_is run_is c.requires.within c.requires.rest_utf8 rest_is (ap (λ (t : TextQueue). t.handed_in) c.self.view_is) taken

pub range-requires-clause-end_boundary : goal.range-requires-clause-end_boundary
range-requires-clause-end_boundary g c =
    let front = c.front_text.result.now in
    let all : encode_utf8_all c.args.self.now.text ≡ front = sym c.front_text.ensures in
    IsCharBoundary-from_drop front c.args.bytes (rw all at c.requires.within) (rw all at c.requires.rest_utf8)
