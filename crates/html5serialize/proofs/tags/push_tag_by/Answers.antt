use Rattle.std.proofs.Common.{◌++◌, map, refl, string_bytes, ap, ◌∙◌}
use Rattle.std.specs.Prelude.{encode_utf8_all}
use Rattle.markup5ever.specs.Names.{attribute_of}
use Rattle.html5serialize.specs.Tags.{attributes_text_by, closing_text, opening_text}
use Rattle.html5serialize.proofs.Bytes.{bytes-tag}
use Rattle.html5serialize.proofs.tags.push_tag_by.Goals as goal

pub returns : goal.returns
returns g c =
    let attributes = attributes_text_by c.args.escapes (map attribute_of c.deref-2.result.now) in
    c.in_ok-push_str-3.ensures.bytes
    ∙ ap (λ l. l ++ c.closing_of.result.now)
    (c.in_ok-push_attributes.ensures
    ∙ ap (λ l. l ++ encode_utf8_all attributes) (c.in_ok-push_str-2.ensures.bytes ∙ ap (λ l. l ++ c.deref.result.now) c.in_ok-push_str.ensures.bytes))
    ∙ rw (c.opening_of.ensures, c.closing_of.ensures) refl
    ∙ bytes-tag (string_bytes c.args.out.now) (opening_text c.args.tag.now.kind) c.deref.result.now attributes (closing_text c.args.tag.now.self_closing) c.deref.utf8
    ∙ rw (c.deref.ensures, c.deref-2.ensures.value) refl
