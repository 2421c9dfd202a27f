use Rattle.std.proofs.Common.{◌++◌, string_bytes, refl, ap, ◌∙◌}
use Rattle.std.specs.Prelude.{encode_utf8_all, option_map}
use Rattle.html5serialize.specs.Doctypes.{identifiers_text}
use Rattle.html5serialize.proofs.Bytes.{bytes-name}
use Rattle.html5serialize.proofs.doctypes.push_name.Goals as goal

pub returns : goal.returns
returns g c =
    let d = c.args.doctype.now in
    let rest = identifiers_text d.force_quirks (option_map string_bytes d.public_id) (option_map string_bytes d.system_id) in
    c.in_ok-push_identifiers.ensures
    ∙ ap (λ l. l ++ encode_utf8_all rest) (c.in_ok-push_str-2.ensures.bytes ∙ ap (λ l. l ++ c.deref.result.now) c.in_ok-push_str.ensures.bytes)
    ∙ bytes-name (string_bytes c.args.out.now) c.deref.result.now rest c.deref.utf8
    ∙ rw (c.in-Some.is, c.deref.ensures) refl
