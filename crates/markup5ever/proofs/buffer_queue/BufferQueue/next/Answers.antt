use Rattle.std.proofs.Common.{ℕ, None, encode_utf8_all}
use Rattle.markup5ever.proofs.BufferQueueLemmas.{first_none}
use Rattle.markup5ever.proofs.TextLemmas.{BeginsWith, begins_with}
use Rattle.markup5ever.proofs.buffer_queue.BufferQueue.next.Given.{Over}
use Rattle.markup5ever.proofs.buffer_queue.BufferQueue.next.Goals as goal

pub returns-in_err-c-clause-none : goal.returns-in_err-c-clause-none
returns-in_err-c-clause-none g c =
    rw c.from_residual.ensures (first_none (ℕ × ℕ) c.args.self.now.text c.front_text.result.now None c.front_text.ensures c.in_err-c.ensures.none)

begins : (g : Over) (c : goal.After-skip-arg-1 g) → BeginsWith (encode_utf8_all c.args.self.now.text) c.in_ok-c.c c.in_ok-c.width
begins g c = begins_with _ _ _ _ _ c.front_text.ensures c.front_text.utf8 c.in_ok-c.ensures.some.1 c.in_ok-c.ensures.width

pub skip-requires-clause-within : goal.skip-requires-clause-within
skip-requires-clause-within g c = (begins g c).within

pub skip-requires-clause-rest_utf8 : goal.skip-requires-clause-rest_utf8
skip-requires-clause-rest_utf8 g c = (begins g c).rest_utf8

pub returns-clause-some : goal.returns-clause-some
returns-clause-some g c =
    rw (begins g c.before).first_is at c.skip.ensures
