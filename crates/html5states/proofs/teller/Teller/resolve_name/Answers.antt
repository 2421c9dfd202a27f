use Rattle.std.proofs.Common.{◌≡◌, false, ◌&&◌, drop, refl, ap, ◌∙◌}
use Rattle.html5reading.specs.Reference as grammar
use Rattle.html5reading.specs.Reference.{goes_on, first_or, longest_name}
use Rattle.html5states.proofs.Resolving.{name-none, name-some, unended-is, found_nothing, unended-cut, goes_on-cut, emits_ok}
use Rattle.html5states.proofs.teller.Teller.resolve_name.Goals as goal
use Rattle.html5states.proofs.teller.Teller.resolve_name.Goals.{else-in_value-via-then-in_value+else-goes_on_with, else-in_value-via-else-in_value}

pub returns-in_default-clause-found : goal.returns-in_default-clause-found
returns-in_default-clause-found g c =
    let entry = longest_name c.args.references.now c.args.held.now in
    rw (name-none c.args.self.now.exact_errors c.args.in_value c.args.held.now c.args.next entry c.in_default.ensures) (found_nothing c.args.self.now.exact_errors c.args.held.now c.args.next)

pub returns-in_ok-emit_message-clause-emits : goal.returns-in_ok-emit_message-clause-emits
returns-in_ok-emit_message-clause-emits g c =
    let held = c.args.held.now in
    let next = c.args.next in
    let named = c.in-Some.named in
    let entry = longest_name c.args.references.now held in
    let ended = unended-cut held c.range.result.now named.len c.is_ended.result c.range.ensures.value c.is_ended.ensures c.if-not-is_ended.true in
    let goes : (c.args.in_value && goes_on (first_or (drop named.len held) next)) ≡ false =
    elim c.else-in_value.branch [
      | else-in_value-via-then-in_value+else-goes_on_with w ↦
          goes_on-cut c.args.in_value w.goes_on_with.result (drop named.len held) w.range_from.result.now next w.if-in_value.true w.range_from.ensures.value w.goes_on_with.ensures w.if-goes_on_with.false
      | else-in_value-via-else-in_value w ↦ rw (w.if-in_value.false) refl
    ] in
    emits_ok c.in_ok-emit_message.ensures (ap (λ (found : grammar.Found). found.errors) (name-some c.args.self.now.exact_errors c.args.in_value held next named entry c.in-Some.ensures ∙ unended-is c.args.in_value held next named ended goes))
