use Rattle.std.specs.String.{string_bytes}
use Rattle.std.proofs.lemmas.Str.{IsUtf8-string_bytes}
use Rattle.markup5ever.specs.BufferQueue.{IsReadTo}
use Rattle.markup5ever.proofs.BufferQueueLemmas.{read_boundary, IsReadTo-start, IsReadTo-pushed}
use Rattle.markup5ever.proofs.buffer_queue.append.Goals.{then-offset-len+in-Ok, else-offset-len}
use Rattle.markup5ever.proofs.buffer_queue.append.Goals as goal

pub replace_range-requires-clause-end_boundary : goal.replace_range-requires-clause-end_boundary
replace_range-requires-clause-end_boundary g c =
    let boundary = read_boundary (string_bytes c.args.text.now) c.args.offset.now c.requires in
    (boundary.0, λ _. boundary.1)

pub returns-clause-read_to : goal.returns-clause-read_to
returns-clause-read_to g c =
    let text = string_bytes c.if-offset-len.text in
    let before : IsReadTo text c.if-offset-len.offset = elim c.if-offset-len.branch [
      | then-offset-len+in-Ok w ↦ rw w.offset-is (IsReadTo-start text (IsUtf8-string_bytes c.if-offset-len.text))
      | else-offset-len w ↦ rw (w.text-is, w.offset-is) c.requires
    ] in
    IsReadTo-pushed text (string_bytes c.push_text.new.text) c.args.back.now c.if-offset-len.offset _ before c.utf8.back c.push_text.ensures.bytes
