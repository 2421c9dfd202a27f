use Rattle.std.proofs.Common.{◌≡◌, [], ◌++◌, string_bytes, sym, ap, ◌∙◌, subst, append_assoc}
use Rattle.std.specs.Prelude.{flat_map, encode_utf8}
use Rattle.std.specs.Str.{IsUtf8, chars}
use Rattle.std.specs.Str.Iter.{chars_rest}
use Rattle.std.proofs.lemmas.List.{append-nil, nil_from_length}
use Rattle.std.proofs.lemmas.Str.{chars_past_char, IsUtf8-past_char, chars-nil}
use Rattle.html5reading.specs.Characters.{name_bytes}
use Rattle.html5partial.proofs.runs.push_letters.Goals as goal

pub loop-c-init : goal.loop-c-init
loop-c-init g c =
    let all : chars_rest c.into_iter-c-iterator.result ≡ c.args.run.now = ap chars_rest c.into_iter-c-iterator.ensures.into_iter_gives ∙ c.chars-c-items.ensures.rest in
    (tt, tt, subst IsUtf8 (sym all) c.utf8.run, ap (λ bytes. string_bytes c.args.name.now ++ flat_map name_bytes (chars bytes)) all)

pub loop-c-preserved : goal.loop-c-preserved
loop-c-preserved g c =
    let first : chars_rest c.loop-c.c-iterator ≡ encode_utf8 c.in-Some.c ++ chars_rest c.next.new.self = c.in-Some.ensures.steps.0 in
    let utf8 : IsUtf8 (chars_rest c.loop-c.c-iterator) = c.loop-c.invariant.2 in (
      tt,
      tt,
      IsUtf8-past_char (chars_rest c.loop-c.c-iterator) (chars_rest c.next.new.self) c.in-Some.c utf8 first,
      ap (λ name. name ++ flat_map name_bytes (chars (chars_rest c.next.new.self))) c.in_ok-push_name.ensures
          ∙ append_assoc (string_bytes c.loop-c.name) (name_bytes c.in-Some.c) (flat_map name_bytes (chars (chars_rest c.next.new.self)))
          ∙ ap (λ l. string_bytes c.loop-c.name ++ flat_map name_bytes l) (sym (chars_past_char (chars_rest c.loop-c.c-iterator) (chars_rest c.next.new.self) c.in-Some.c utf8 first))
          ∙ c.loop-c.invariant.3,
    )

pub returns : goal.returns
returns g c =
    let none : chars_rest c.loop-c.c-iterator ≡ [] = nil_from_length (chars_rest c.loop-c.c-iterator) c.in-None.ensures.steps.0.0 in
    sym (append-nil (string_bytes c.loop-c.name))
    ∙ ap (λ l. string_bytes c.loop-c.name ++ flat_map name_bytes l) (sym (ap chars none ∙ chars-nil))
    ∙ c.loop-c.invariant.3
