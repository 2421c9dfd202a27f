use Rattle.std.proofs.Common.{sym, ◌∙◌, length}
use Rattle.std.proofs.lemmas.Bool.{ltb-true}
use Rattle.markup5ever.proofs.TextLemmas.{begins_with_ascii}
use Rattle.markup5ever.proofs.buffer_queue.first_char.Goals as goal

pub returns-then-is_ascii-clause-some : goal.returns-then-is_ascii-clause-some
returns-then-is_ascii-clause-some c =
    let bytes = c.as_bytes.result.now in
    let first = c.in_ok-first.field-0.now in
    let begins = begins_with_ascii bytes first (ltb-true 0 (length bytes) (sym c.in_ok-first.ensures.item.0)) c.in_ok-first.ensures.item.1 (sym c.is_ascii.ensures ∙ c.if-is_ascii.true) in
    rw c.from.ensures (begins.0, sym c.as_bytes.ensures.value ∙ begins.1)
