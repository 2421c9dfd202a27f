use Rattle.std.proofs.Common.{drop, sym, ap, ◌∙◌}
use Rattle.std.specs.String.{string_bytes}
use Rattle.markup5ever.specs.BufferQueue.{TextQueue}
use Rattle.markup5ever.proofs.BufferQueueLemmas.{waiting_bytes, read_boundary}
use Rattle.markup5ever.proofs.buffer_queue.BufferQueue.front_text.Goals as goal

pub range_from-requires : goal.range_from-requires
range_from-requires g c =
    let q = c.self.inside in
    λ _. rw c.as_str-text.ensures.value (read_boundary (string_bytes q.text) q.offset c.self.invariant)

pub returns : goal.returns
returns g c =
    let q = c.self.inside in
    c.range_from.ensures.value ∙ ap (drop q.offset) c.as_str-text.ensures.value ∙ sym (waiting_bytes (string_bytes q.text) c.args.self.now.text q.offset c.self.invariant (ap (λ (t : TextQueue). t.text) c.self.view_is))
