use Rattle.std.proofs.Common.{◌≡◌, ◌+◌, ◌++◌, length, drop, ap, ◌∙◌}
use Rattle.std.specs.Str.{chars}
use Rattle.std.specs.String.{string_bytes}
use Rattle.std.proofs.lemmas.Str.{chars-append}
use Rattle.markup5ever.specs.BufferQueue.{TextQueue}
use Rattle.markup5ever.proofs.buffer_queue.BufferQueue.push_str.Goals as goal

pub returns-clause-ok : goal.returns-clause-ok
returns-clause-ok g c =
    let q = c.self.inside in
    let back = c.args.text.now in
    let left = drop q.offset (string_bytes q.text) in
    let all = drop c.append.new.offset (string_bytes c.append.new.text) in
    let grown : all ≡ left ++ back = c.in_ok-append.ensures.ok in
    record {
      text = ap chars grown ∙ chars-append left back c.self.invariant.rest_utf8 ∙ ap (λ (t : TextQueue). t.text ++ chars back) c.self.view_is;
      handed_in = c.with_chars-self-inside.ensures ∙ ap (λ (t : TextQueue). t.handed_in + length (chars back)) c.self.view_is;
      taken = ap (λ (t : TextQueue). t.taken) c.self.view_is;
    }
