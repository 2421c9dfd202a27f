use Rattle.std.proofs.Common.{◌≡◌, ◌<◌, ◌++◌, ◌∷◌, length, take, drop, sym, ap, ◌∙◌, arith}
use Rattle.std.specs.Str.{chars}
use Rattle.std.specs.String.{string_bytes}
use Rattle.std.proofs.lemmas.List.{length-take-le}
use Rattle.std.proofs.lemmas.Str.{IsUtf8-string_bytes}
use Rattle.markup5ever.specs.BufferQueue.{Takes}
use Rattle.markup5ever.proofs.BufferQueueLemmas.{waiting_chars, rest_ends_run, TakesRun-no_member}
use Rattle.markup5ever.proofs.TextLemmas.{filled_chars}
use Rattle.markup5ever.proofs.buffer_queue.BufferQueue.pop_except_from.Goals as goal

pub returns-then-run-eq0-clause-ok : goal.returns-then-run-eq0-clause-ok
returns-then-run-eq0-clause-ok g c =
    let front = c.front_text.result.now in
    let takes = c.in-Some.ensures.some in
    let is = waiting_chars front c.args.self.now.text c.front_text.utf8 c.front_text.ensures in
    let at_start : chars (drop c.nonmember_prefix_len-run.result front) ≡ c.in-Some.c ∷ c.next.new.self.text = ap (λ n. chars (drop n front)) c.if-run-eq0.true ∙ is ∙ takes.text in
    record { member = c.nonmember_prefix_len-run.ensures.stops c.in-Some.c c.next.new.self.text at_start; takes = takes }

pub returns-clause-ok : goal.returns-clause-ok
returns-clause-ok g c =
    let old = c.args.self.now in
    let front = c.front_text.result.now in
    let run = string_bytes c.in_ok-text.text in
    let len = c.nonmember_prefix_len-run.result in
    let begins = c.nonmember_prefix_len-run.ensures.outside in
    let run_is : run ≡ take len front = c.in_ok-text.ensures.bytes ∙ ap (take len) (sym c.front_text.ensures) in
    let some : 0 < length run = omega (arith, ap length run_is, length-take-le len front begins.within) in
    record {
      filled = λ none. omega (arith, filled_chars run (IsUtf8-string_bytes c.in_ok-text.text) some, ap length none);
      outside = rw run_is begins.outside;
      takes = rw c.in_ok-text.ensures.bytes c.in_ok-text.ensures.takes;
    }

pub returns-clause-member : goal.returns-clause-member
returns-clause-member g c =
    let run = chars (string_bytes c.in_ok-text.text) in
    λ first rest e member. absurd (TakesRun-no_member c.args.set c.args.self.now _ run first rest (returns-clause-ok g c) e member)

pub returns-clause-longest : goal.returns-clause-longest
returns-clause-longest g c =
    let old = c.args.self.now in
    let front = c.front_text.result.now in
    let run = string_bytes c.in_ok-text.text in
    let len = c.nonmember_prefix_len-run.result in
    let run_is : run ≡ take len front = c.in_ok-text.ensures.bytes ∙ ap (take len) (sym c.front_text.ensures) in
    let taken : Takes old c.take_text.new.self (chars run) = rw c.in_ok-text.ensures.bytes c.in_ok-text.ensures.takes in
    let split : chars front ≡ chars run ++ c.take_text.new.self.text = waiting_chars front old.text c.front_text.utf8 c.front_text.ensures ∙ taken.text in
    rest_ends_run c.args.set front run c.take_text.new.self.text len (IsUtf8-string_bytes c.in_ok-text.text) run_is split c.nonmember_prefix_len-run.ensures.stops
