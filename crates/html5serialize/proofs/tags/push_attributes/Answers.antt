use Rattle.std.proofs.Common.{◌+◌, ◌++◌, string_bytes, drop, map, sym, ap, ◌∙◌, append_assoc}
use Rattle.std.specs.Prelude.{encode_utf8_all}
use Rattle.markup5ever.specs.Names.{attribute_of}
use Rattle.html5serialize.specs.Tags.{attribute_text_by, attributes_text_by}
use Rattle.html5serialize.proofs.Bytes.{bytes-attributes}
use Rattle.html5serialize.proofs.tags.push_attributes.Goals as goal

pub loop-attribute-preserved : goal.loop-attribute-preserved
loop-attribute-preserved g c =
    let i = c.loop-attribute.attribute-index in
    let out = string_bytes c.loop-attribute.out in
    let later = encode_utf8_all (attributes_text_by c.args.escapes (map attribute_of (drop (i + 1) c.args.attributes.now))) in
    ap (λ l. l ++ later) (c.in_ok-push_attribute.ensures ∙ ap (λ a. out ++ encode_utf8_all (attribute_text_by c.args.escapes (attribute_of a))) c.attribute-item.is)
    ∙ append_assoc out _ later
    ∙ ap (λ l. out ++ l) (sym (bytes-attributes c.args.escapes i c.args.attributes.now _ c.loop-attribute-test.true))
    ∙ c.loop-attribute.invariant
