use Rattle.std.proofs.Common.{◌≡◌, ◌++◌, length, drop, sym, ap, ◌∙◌}
use Rattle.std.specs.Str.{chars}
use Rattle.std.specs.String.{string_bytes}
use Rattle.std.proofs.lemmas.Bool.{eqb-true}
use Rattle.std.proofs.lemmas.Str.{chars-nil, chars-append, IsUtf8-append, IsUtf8-string_bytes}
use Rattle.markup5ever.specs.BufferQueue.{TextQueue}
use Rattle.markup5ever.proofs.BufferQueueLemmas.{waiting_chars, IsReadTo-rest, TakesBack-none}
use Rattle.markup5ever.proofs.TextLemmas.{nil_from_length}
use Rattle.markup5ever.proofs.buffer_queue.BufferQueue.give_back.Given.{Over}
use Rattle.markup5ever.proofs.buffer_queue.BufferQueue.give_back.Goals as goal

pub returns-then-is_empty-clause-ok : goal.returns-then-is_empty-clause-ok
returns-then-is_empty-clause-ok g c =
    let text = c.args.text in
    let no_byte : length (string_bytes text) ≡ 0 = sym text.bytes.ok.0 ∙ eqb-true _ _ (sym c.is_empty.ensures ∙ c.if-is_empty.true) in
    TakesBack-none c.args.self.now (chars (string_bytes text)) (ap chars (nil_from_length (string_bytes text) no_byte) ∙ chars-nil)

pub invariant_of-self : goal.invariant_of-self
invariant_of-self g c =
    let front = string_bytes c.args.text in
    let rest = drop c.self.inside.offset (string_bytes c.self.inside.text) in
    IsReadTo-rest (string_bytes c.write_in_front.new.text) (front ++ rest) c.write_in_front.new.offset c.write_in_front.ensures.within (IsUtf8-append front rest (IsUtf8-string_bytes c.args.text) c.self.invariant.rest_utf8) (c.write_in_front.ensures.written c.if-write_in_front.true ∙ ap (λ bs. bs ++ rest) c.deref.ensures)

pub returns-then-write_in_front-clause-ok : goal.returns-then-write_in_front-clause-ok
returns-then-write_in_front-clause-ok g c =
    let front = string_bytes c.args.text in
    let rest = drop c.self.inside.offset (string_bytes c.self.inside.text) in
    record {
      text = ap chars (c.write_in_front.ensures.written c.if-write_in_front.true ∙ ap (λ bs. bs ++ rest) c.deref.ensures) ∙ chars-append front rest (IsUtf8-string_bytes c.args.text) ∙ ap (λ (t : TextQueue). chars front ++ t.text) c.self.view_is;
      handed_in = ap (λ (t : TextQueue). t.handed_in) c.self.view_is;
      taken = ap (λ (t : TextQueue). t.taken) c.self.view_is;
    }

pub invariant_of-self-3 : goal.invariant_of-self-3
invariant_of-self-3 g c =
    let front = string_bytes c.args.text in
    let rest = c.front_text.result.now in
    IsReadTo-rest (string_bytes c.append_with_room.new.text) (front ++ rest) c.in-Ok.room c.in-Ok.ensures.within (IsUtf8-append front rest (IsUtf8-string_bytes c.args.text) c.front_text.utf8) c.in-Ok.ensures.waits

pub returns-clause-ok : goal.returns-clause-ok
returns-clause-ok g c =
    let front = string_bytes c.args.text in
    let rest = c.front_text.result.now in
    let same = c.write_in_front.ensures.no_room c.if-write_in_front.false in
    let waits = ap chars same ∙ ap (λ (t : TextQueue). t.text) c.self.view_is in
    record {
      text = ap chars c.in-Ok.ensures.waits ∙ chars-append front rest (IsUtf8-string_bytes c.args.text) ∙ ap (λ cs. chars front ++ cs) (waiting_chars rest _ c.front_text.utf8 c.front_text.ensures ∙ waits);
      handed_in = ap (λ (t : TextQueue). t.handed_in) c.self.view_is;
      taken = ap (λ (t : TextQueue). t.taken) c.self.view_is;
    }
