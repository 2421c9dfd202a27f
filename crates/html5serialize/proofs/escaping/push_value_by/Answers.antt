use Rattle.std.proofs.Common.{◌≡◌, ◌++◌, string_bytes, sym, ap, ◌∙◌, subst, append_assoc}
use Rattle.std.specs.Prelude.{encode_utf8_all}
use Rattle.std.specs.Str.{IsUtf8, chars}
use Rattle.std.specs.Str.Iter.{chars_rest}
use Rattle.std.proofs.lemmas.List.{append-nil, nil_from_length}
use Rattle.std.proofs.lemmas.Str.{chars_past_char, IsUtf8-past_char, chars-nil}
use Rattle.html5serialize.specs.Escapes.{value_by, value_text_by}
use Rattle.html5serialize.proofs.NamedBytes.{bytes-value_by}
use Rattle.html5serialize.proofs.escaping.push_value_by.Goals as goal

pub loop-c-init : goal.loop-c-init
loop-c-init g c =
    let all : chars_rest c.into_iter-c-iterator.result ≡ c.args.value.now = ap chars_rest c.into_iter-c-iterator.ensures.into_iter_gives ∙ c.chars-c-items.ensures.rest in
    (tt, tt, subst IsUtf8 (sym all) c.utf8.value, ap (λ bytes. string_bytes c.args.out.now ++ encode_utf8_all (value_text_by c.args.escapes (chars bytes))) all)

pub loop-c-preserved : goal.loop-c-preserved
loop-c-preserved g c =
    let before = chars_rest c.loop-c.c-iterator in
    let after = chars_rest c.next.new.self in
    let first = c.in-Some.ensures.steps.0 in
    let utf8 : IsUtf8 before = c.loop-c.invariant.2 in
    let later = encode_utf8_all (value_text_by c.args.escapes (chars after)) in (
      tt,
      tt,
      IsUtf8-past_char before after c.in-Some.c utf8 first,
      ap (λ out. out ++ later) c.in_ok-push_value_character.ensures
          ∙ append_assoc (string_bytes c.loop-c.out) (encode_utf8_all (value_by c.args.escapes c.in-Some.c)) later
          ∙ ap (λ l. string_bytes c.loop-c.out ++ l) (sym (ap (λ l. encode_utf8_all (value_text_by c.args.escapes l)) (chars_past_char before after c.in-Some.c utf8 first) ∙ bytes-value_by c.args.escapes c.in-Some.c (chars after)))
          ∙ c.loop-c.invariant.3,
    )

pub returns : goal.returns
returns g c =
    let none = nil_from_length (chars_rest c.loop-c.c-iterator) c.in-None.ensures.steps.0.0 in
    sym (append-nil (string_bytes c.loop-c.out))
    ∙ ap (λ l. string_bytes c.loop-c.out ++ encode_utf8_all (value_text_by c.args.escapes l)) (sym (ap chars none ∙ chars-nil))
    ∙ c.loop-c.invariant.3
