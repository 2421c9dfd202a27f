use Rattle.std.proofs.Common.{length, encode_utf8_all, sym, ap, ◌∙◌}
use Rattle.std.proofs.lemmas.Bool.{eqb-true, eq-eqb}
use Rattle.markup5ever.proofs.BufferQueueLemmas.{none_waits}
use Rattle.markup5ever.proofs.buffer_queue.BufferQueue.is_empty.Goals as goal

pub returns : goal.returns
returns g c =
    let front = c.front_text.ensures in (
      λ answer. none_waits c.args.self.now.text (ap length (sym front) ∙ eqb-true _ _ (sym c.is_empty.ensures ∙ answer)),
      λ e. c.is_empty.ensures ∙ eq-eqb _ _ (ap length front ∙ ap (λ cs. length (encode_utf8_all cs)) e),
    )
