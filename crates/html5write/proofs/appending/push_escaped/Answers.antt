use Rattle.std.proofs.Common.{◌++◌, string_bytes, refl, sym, ap, ◌∙◌}
use Rattle.std.specs.Prelude.{encode_utf8}
use Rattle.std.specs.Str.Iter.{chars_rest}
use Rattle.std.proofs.lemmas.List.{nil_from_length}
use Rattle.std.proofs.lemmas.Str.{IsCharBoundary-from_drop, IsUtf8-past_char}
use Rattle.markup5ever.proofs.Beginnings.{BeginsWith-append, BeginsWith-equal, BeginsWith-trans}
use Rattle.markup5ever.proofs.BufferQueueLemmas.{range_from_start}
use Rattle.html5write.proofs.PlainRuns.{spelled-step, spelled-end, shorter}
use Rattle.html5write.proofs.appending.push_escaped.Goals as goal

pub loop-characters-init : goal.loop-characters-init
loop-characters-init g c = (c.utf8.text, refl, BeginsWith-equal _ _ refl)

pub range-requires-clause-end_boundary : goal.range-requires-clause-end_boundary
range-requires-clause-end_boundary g c =
    let begins = c.plain_prefix_len-plain.ensures in
    IsCharBoundary-from_drop c.loop-characters.rest.now c.plain_prefix_len-plain.result begins.within begins.rest_utf8

pub range_from-requires : goal.range_from-requires
range_from-requires g c =
    let begins = c.plain_prefix_len-plain.ensures in
    λ some. IsCharBoundary-from_drop c.loop-characters.rest.now c.plain_prefix_len-plain.result begins.within begins.rest_utf8

pub returns-in_default-clause-ok : goal.returns-in_default-clause-ok
returns-in_default-clause-ok g c =
    let rest = c.loop-characters.rest.now in
    let len = c.plain_prefix_len-plain.result in
    let ran = c.in_ok-push_text.ensures.bytes ∙ ap (λ l. string_bytes c.loop-characters.out ++ l) (c.range.ensures.value ∙ range_from_start rest len) in
    let none = sym c.range_from.ensures.value ∙ sym c.chars-characters.ensures.rest ∙ nil_from_length (chars_rest c.chars-characters.result) c.in_default.ensures.steps.0.0 in
    spelled-end (string_bytes c.loop-characters.out) (string_bytes c.push_text.new.text) rest len c.loop-characters.invariant.0 c.plain_prefix_len-plain.ensures ran none
    ∙ c.loop-characters.invariant.1

pub loop-characters-smaller : goal.loop-characters-smaller
loop-characters-smaller g c =
    shorter c.loop-characters.rest.now c.as_str-rest.result.now c.plain_prefix_len-plain.result c.in-Some.c
    (sym c.range_from.ensures.value ∙ sym c.chars-characters.ensures.rest ∙ c.in-Some.ensures.steps.0 ∙ ap (λ l. encode_utf8 c.in-Some.c ++ l) (sym c.as_str-rest.ensures))

pub loop-characters-preserved : goal.loop-characters-preserved
loop-characters-preserved g c =
    let rest = c.loop-characters.rest.now in
    let after = c.as_str-rest.result.now in
    let len = c.plain_prefix_len-plain.result in
    let begins = c.plain_prefix_len-plain.ensures in
    let ran = c.in_ok-push_text.ensures.bytes ∙ ap (λ l. string_bytes c.loop-characters.out ++ l) (c.range.ensures.value ∙ range_from_start rest len) in
    let first = sym c.range_from.ensures.value ∙ sym c.chars-characters.ensures.rest ∙ c.in-Some.ensures.steps.0 ∙ ap (λ l. encode_utf8 c.in-Some.c ++ l) (sym c.as_str-rest.ensures) in (
      IsUtf8-past_char _ after c.in-Some.c begins.rest_utf8 first,
      spelled-step (string_bytes c.loop-characters.out) (string_bytes c.push_text.new.text) (string_bytes c.push_character.new.out) rest after len c.in-Some.c
          c.loop-characters.invariant.0 begins ran c.in_ok-push_character.ensures.ok first
          ∙ c.loop-characters.invariant.1,
      BeginsWith-trans _ _ _ (BeginsWith-append _ _ _ c.in_ok-push_character.ensures.ok) (BeginsWith-trans _ _ _ (BeginsWith-append _ _ _ c.in_ok-push_text.ensures.bytes) c.loop-characters.invariant.2),
    )
