use Rattle.std.proofs.Common.{◌++◌, string_bytes, refl, ap, ◌∙◌}
use Rattle.std.specs.Prelude.{codes, chars, encode_utf8_all}
use Rattle.html5serialize.specs.Escapes.{value_text_by}
use Rattle.html5serialize.proofs.Bytes.{bytes-attribute}
use Rattle.html5serialize.proofs.tags.push_attribute.Goals as goal

pub returns : goal.returns
returns g c =
    c.in_ok-push_str-4.ensures.bytes
    ∙ ap (λ l. l ++ codes "\"")
    (c.in_ok-push_value_by.ensures
    ∙ ap (λ l. l ++ encode_utf8_all (value_text_by c.args.escapes (chars c.deref-2.result.now)))
    (c.in_ok-push_str-3.ensures.bytes
    ∙ ap (λ l. l ++ codes "=\"") (c.in_ok-push_str-2.ensures.bytes ∙ ap (λ l. l ++ c.deref.result.now) c.in_ok-push_str.ensures.bytes)))
    ∙ bytes-attribute (string_bytes c.args.out.now) c.deref.result.now (value_text_by c.args.escapes (chars c.deref-2.result.now)) c.deref.utf8
    ∙ rw (c.deref.ensures, c.deref-2.ensures) refl
