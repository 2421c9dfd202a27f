use Rattle.std.proofs.Common.{ℕ, None, Some}
use Rattle.markup5ever.proofs.BufferQueueLemmas.{first_waits, first_none}
use Rattle.markup5ever.proofs.buffer_queue.BufferQueue.peek.Goals as goal

pub returns-in_err-c-clause-none : goal.returns-in_err-c-clause-none
returns-in_err-c-clause-none g c =
    rw c.from_residual.ensures (first_none (ℕ × ℕ) c.args.self.now.text c.front_text.result.now None c.front_text.ensures c.in_err-c.ensures.none)

pub returns-clause-none : goal.returns-clause-none
returns-clause-none g c = first_none ℕ c.args.self.now.text c.front_text.result.now (Some c.in_ok-c.c) c.front_text.ensures c.in_ok-c.ensures.none

pub returns-clause-some : goal.returns-clause-some
returns-clause-some g c =
    let first = c.in_ok-c.ensures.some in
    first_waits c.args.self.now.text c.front_text.result.now first.0 c.in_ok-c.c c.front_text.ensures c.front_text.utf8 first.1
