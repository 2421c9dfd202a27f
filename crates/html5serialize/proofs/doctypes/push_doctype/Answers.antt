use Rattle.std.proofs.Common.{◌++◌, string_bytes, ap, ◌∙◌}
use Rattle.std.specs.Prelude.{codes, encode_utf8_all, option_map}
use Rattle.html5ever_interface.specs.Token.{doctype_of}
use Rattle.html5serialize.specs.Doctypes.{name_text}
use Rattle.html5serialize.proofs.Bytes.{bytes-doctype}
use Rattle.html5serialize.proofs.doctypes.push_doctype.Goals as goal

pub returns : goal.returns
returns g c =
    c.in_ok-push_str-2.ensures.bytes
    ∙ ap (λ l. l ++ codes ">")
    (c.in_ok-push_name.ensures
    ∙ ap (λ l. l ++ encode_utf8_all (name_text (doctype_of c.args.doctype.now) (option_map string_bytes c.args.doctype.now.name))) c.in_ok-push_str.ensures.bytes)
    ∙ bytes-doctype (string_bytes c.args.out.now) (name_text (doctype_of c.args.doctype.now) (option_map string_bytes c.args.doctype.now.name))
