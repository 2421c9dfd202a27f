use Rattle.std.proofs.Common.{◌++◌, string_bytes, map, ap, ◌∙◌}
use Rattle.std.specs.Prelude.{codes, encode_utf8_all, flat_map}
use Rattle.html5write.specs.Pieces.{attribute_text}
use Rattle.html5write.specs.Writing.{attribute_of}
use Rattle.html5write.proofs.Bytes.{bytes-start_tag}
use Rattle.html5write.proofs.appending.push_start_tag.Goals as goal

pub returns-clause-ok : goal.returns-clause-ok
unfolding lib.Utf8.encode
returns-clause-ok g c =
    c.in_ok-push-2.ensures.bytes
    ∙ ap (λ l. l ++ codes ">")
    (c.in_ok-push_attributes.ensures.ok
    ∙ ap (λ l. l ++ encode_utf8_all (flat_map attribute_text (map attribute_of c.args.attributes.now)))
    (c.in_ok-push_text.ensures.bytes ∙ ap (λ l. l ++ c.args.name.now) c.in_ok-push.ensures.bytes))
    ∙ bytes-start_tag (string_bytes c.args.out.now) c.args.name.now (map attribute_of c.args.attributes.now) c.utf8.name
