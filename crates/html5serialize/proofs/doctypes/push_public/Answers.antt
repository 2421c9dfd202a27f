use Rattle.std.proofs.Common.{◌++◌, true, string_bytes, refl, ap, ◌∙◌}
use Rattle.std.specs.Prelude.{codes, encode_utf8_all, not}
use Rattle.html5serialize.specs.Doctypes.{identifier_text}
use Rattle.html5serialize.proofs.Bytes.{bytes-identifiers}
use Rattle.html5serialize.proofs.doctypes.push_public.Goals as goal

pub returns : goal.returns
returns g c =
    let public = identifier_text true c.args.public.now in
    let system = identifier_text (not c.args.quirks) c.deref.result.now in
    c.in_ok-push_identifier-2.ensures
    ∙ ap (λ l. l ++ encode_utf8_all system)
    (c.in_ok-push_str-2.ensures.bytes
    ∙ ap (λ l. l ++ codes " ") (c.in_ok-push_identifier.ensures ∙ ap (λ l. l ++ encode_utf8_all public) c.in_ok-push_str.ensures.bytes))
    ∙ bytes-identifiers (string_bytes c.args.out.now) public system
    ∙ rw (c.in-Some.is, c.deref.ensures) refl
