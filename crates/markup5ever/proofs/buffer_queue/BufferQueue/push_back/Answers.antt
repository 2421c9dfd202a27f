use Rattle.std.proofs.Common.{◌≡◌, length, sym, ap, ◌∙◌}
use Rattle.std.specs.Str.{chars}
use Rattle.std.specs.String.{string_bytes}
use Rattle.std.proofs.lemmas.Bool.{eqb-true}
use Rattle.std.proofs.lemmas.Str.{chars-nil}
use Rattle.markup5ever.proofs.BufferQueueLemmas.{Gains-none}
use Rattle.markup5ever.proofs.TextLemmas.{nil_from_length}
use Rattle.markup5ever.proofs.buffer_queue.BufferQueue.push_back.Goals as goal

pub returns-then-is_empty-clause-ok : goal.returns-then-is_empty-clause-ok
returns-then-is_empty-clause-ok g c =
    let text = c.args.text in
    let no_byte : length (string_bytes text) ≡ 0 = sym text.bytes.ok.0 ∙ eqb-true _ _ (sym c.is_empty.ensures ∙ c.if-is_empty.true) in
    Gains-none c.args.self.now (chars (string_bytes text)) (ap chars (nil_from_length (string_bytes text) no_byte) ∙ chars-nil)
