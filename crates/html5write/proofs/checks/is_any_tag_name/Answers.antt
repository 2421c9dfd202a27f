use Rattle.std.proofs.Common.{◌++◌, sym, ap, ◌∙◌}
use Rattle.std.specs.Prelude.{◌&&◌, encode_utf8}
use Rattle.std.specs.List.{list_all}
use Rattle.std.specs.Str.{chars}
use Rattle.std.specs.Str.Iter.{chars_rest}
use Rattle.std.proofs.lemmas.List.{nil_from_length}
use Rattle.html5write.specs.Pieces.{is_name_character}
use Rattle.html5write.proofs.FirstCharacters.{tag_name-first, tag_name-none}
use Rattle.html5write.proofs.checks.is_any_tag_name.Goals as goal

pub returns-then-is_ascii_lowercase : goal.returns-then-is_ascii_lowercase
returns-then-is_ascii_lowercase c =
    let first = sym c.chars-characters.ensures.rest ∙ c.in-Some.ensures.steps.0 ∙ ap (λ l. encode_utf8 c.in-Some.first ++ l) (sym c.as_str.ensures) in
    c.has_name_characters.ensures
    ∙ sym (tag_name-first c.args.name.now c.as_str.result.now c.in-Some.first c.utf8.name first
    ∙ ap (λ b. b && list_all is_name_character (chars c.as_str.result.now)) (sym c.is_ascii_lowercase.ensures.value ∙ c.if-is_ascii_lowercase.true))

pub returns-else-is_ascii_lowercase : goal.returns-else-is_ascii_lowercase
returns-else-is_ascii_lowercase c =
    let rest = chars_rest c.next.new.self in
    c.if-is_ascii_lowercase.false
    ∙ sym (tag_name-first c.args.name.now rest c.in-Some.first c.utf8.name (sym c.chars-characters.ensures.rest ∙ c.in-Some.ensures.steps.0)
    ∙ ap (λ b. b && list_all is_name_character (chars rest)) (sym c.is_ascii_lowercase.ensures.value ∙ c.if-is_ascii_lowercase.false))

pub returns-in-None : goal.returns-in-None
returns-in-None c = sym (tag_name-none c.args.name.now (sym c.chars-characters.ensures.rest ∙ nil_from_length (chars_rest c.chars-characters.result) c.in-None.ensures.steps.0.0))
