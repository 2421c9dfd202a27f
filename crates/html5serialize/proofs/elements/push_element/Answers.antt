use Rattle.std.proofs.Common.{◌++◌, chars, encode_utf8_all, string_bytes, refl, ap, ◌∙◌}
use Rattle.html5ever_interface.specs.Token.{tag_of}
use Rattle.html5serialize.specs.RawTexts.{end_text, raw_text}
use Rattle.html5serialize.specs.Tags.{tag_text}
use Rattle.html5serialize.specs.Tokens.{token_text}
use Rattle.html5serialize.proofs.Bytes.{bytes-element}
use Rattle.html5serialize.proofs.elements.push_element.Goals as goal

pub returns : goal.returns
unfolding token_text
returns g c =
    let front = tag_text (tag_of c.args.tag.now) in
    let text = raw_text c.args.kind c.args.text.now in
    let end = end_text (chars c.deref.result.now) in
    c.in_ok-push_end.ensures
    ∙ ap (λ l. l ++ encode_utf8_all end) (c.in_ok-push_raw_text.ensures ∙ ap (λ l. l ++ encode_utf8_all text) c.in_ok-push_tag.ensures)
    ∙ bytes-element (string_bytes c.args.out.now) front text end
    ∙ rw c.deref.ensures refl
