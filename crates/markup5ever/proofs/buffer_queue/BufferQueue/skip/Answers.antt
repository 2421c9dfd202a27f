use Rattle.std.proofs.Common.{◌≡◌, ◌+◌, [], length, take, drop, encode_utf8_all, refl, sym, ap, ◌∙◌}
use Rattle.std.specs.Str.{chars}
use Rattle.std.specs.String.{string_bytes}
use Rattle.std.proofs.lemmas.List.{drop-drop, drop_all}
use Rattle.std.proofs.lemmas.Str.{IsCharBoundary-from_drop}
use Rattle.markup5ever.specs.BufferQueue.{TextQueue}
use Rattle.markup5ever.proofs.BufferQueueLemmas.{waiting_bytes, read_boundary, IsReadTo-more, takes_bytes, range_from_start}
use Rattle.markup5ever.proofs.buffer_queue.BufferQueue.skip.Goals as goal

pub range_from-front-requires : goal.range_from-front-requires
range_from-front-requires g c =
    let q = c.self.inside in
    λ _. rw c.deref.ensures (read_boundary (string_bytes q.text) q.offset c.self.invariant)

pub range-requires-clause-end_boundary : goal.range-requires-clause-end_boundary
range-requires-clause-end_boundary g c =
    let q = c.self.inside in
    let old = c.args.self.now in
    let front = c.range_from-front.result.now in
    let all : encode_utf8_all old.text ≡ front = waiting_bytes (string_bytes q.text) old.text q.offset c.self.invariant (ap (λ (t : TextQueue). t.text) c.self.view_is) ∙ sym (c.range_from-front.ensures.value ∙ ap (drop q.offset) c.deref.ensures) in
    IsCharBoundary-from_drop front c.args.bytes (rw all at c.requires.within) (rw all at c.requires.rest_utf8)

pub invariant_of-self : goal.invariant_of-self
invariant_of-self g c =
    let q = c.self.inside in
    let old = c.args.self.now in
    let front = c.range_from-front.result.now in
    let front_is = c.range_from-front.ensures.value ∙ ap (drop q.offset) c.deref.ensures in
    let all : encode_utf8_all old.text ≡ front = waiting_bytes (string_bytes q.text) old.text q.offset c.self.invariant (ap (λ (t : TextQueue). t.text) c.self.view_is) ∙ sym front_is in
    IsReadTo-more (string_bytes q.text) front q.offset c.args.bytes front_is c.if-bytes-front.true (rw all at c.requires.rest_utf8)

pub returns-then-bytes-front : goal.returns-then-bytes-front
returns-then-bytes-front g c =
    let q = c.self.inside in
    let old = c.args.self.now in
    let run = c.range.result.now in
    let front_is = c.range_from-front.ensures.value ∙ ap (drop q.offset) c.deref.ensures in
    let run_is = c.range.ensures.value ∙ range_from_start c.range_from-front.result.now c.args.bytes ∙ ap (take c.args.bytes) front_is in
    takes_bytes old _ (string_bytes q.text) run q.offset c.args.bytes c.self.invariant (ap (λ (t : TextQueue). t.text) c.self.view_is) run_is c.requires.within c.requires.rest_utf8 refl (ap (λ (t : TextQueue). t.handed_in) c.self.view_is) (c.with_chars-self-inside.ensures ∙ ap (λ (t : TextQueue). t.taken + length (chars run)) c.self.view_is)

pub returns-else-bytes-front : goal.returns-else-bytes-front
returns-else-bytes-front g c =
    let q = c.self.inside in
    let old = c.args.self.now in
    let run = c.range.result.now in
    let front_is = c.range_from-front.ensures.value ∙ ap (drop q.offset) c.deref.ensures in
    let run_is = c.range.ensures.value ∙ range_from_start c.range_from-front.result.now c.args.bytes ∙ ap (take c.args.bytes) front_is in
    let none : drop (q.offset + c.args.bytes) (string_bytes q.text) ≡ [] = sym (drop-drop c.args.bytes q.offset (string_bytes q.text)) ∙ ap (drop c.args.bytes) (sym front_is) ∙ drop_all c.args.bytes c.range_from-front.result.now c.if-bytes-front.false in
    takes_bytes old _ (string_bytes q.text) run q.offset c.args.bytes c.self.invariant (ap (λ (t : TextQueue). t.text) c.self.view_is) run_is c.requires.within c.requires.rest_utf8 (ap chars (c.clear.ensures.bytes ∙ sym none)) (ap (λ (t : TextQueue). t.handed_in) c.self.view_is) (c.with_chars-self-inside.ensures ∙ ap (λ (t : TextQueue). t.taken + length (chars run)) c.self.view_is)
