use Rattle.std.proofs.Common.{◌++◌, string_bytes, ap, ◌∙◌, append_assoc}
use Rattle.std.specs.Prelude.{codes, chars, encode_utf8_all}
use Rattle.html5write.specs.Escaped.{escaped_text}
use Rattle.html5write.proofs.Bytes.{bytes-attribute}
use Rattle.html5write.proofs.appending.push_attribute.Goals as goal

pub returns-clause-ok : goal.returns-clause-ok
unfolding lib.Utf8.encode
returns-clause-ok g c =
    c.in_ok-push-4.ensures.bytes
    ∙ ap (λ l. l ++ codes "\"")
    (c.in_ok-push_value.ensures.ok
    ∙ ap (λ l. l ++ encode_utf8_all (escaped_text (chars c.args.value.now)))
    (c.in_ok-push-3.ensures.bytes
    ∙ ap (λ l. l ++ codes "\"") (c.in_ok-push-2.ensures.bytes ∙ ap (λ l. l ++ codes "=") (c.in_ok-push_text.ensures.bytes ∙ ap (λ l. l ++ c.args.name.now) c.in_ok-push.ensures.bytes))
    ∙ append_assoc ((string_bytes c.args.out.now ++ codes " ") ++ c.args.name.now) (codes "=") (codes "\"")))
    ∙ bytes-attribute (string_bytes c.args.out.now) c.args.name.now (chars c.args.value.now) c.utf8.name
