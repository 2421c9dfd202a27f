use Rattle.std.proofs.Common.{◌++◌, string_bytes, sym, ap, ◌∙◌}
use Rattle.html5serialize.proofs.NamedBytes.{bytes-reference_by, bytes-itself_by}
use Rattle.html5serialize.proofs.escaping.push_character.Goals as goal

pub returns-in_ok-push_str-in-Some : goal.returns-in_ok-push_str-in-Some
returns-in_ok-push_str-in-Some g c =
    c.in_ok-push_str-in-Some.ensures.bytes
    ∙ ap (λ l. string_bytes c.args.out.now ++ l) (bytes-reference_by c.args.escapes c.args.c c.in-Some.reference.now (sym c.in-Some.ensures))

pub returns-in_ok-push-in-None : goal.returns-in_ok-push-in-None
returns-in_ok-push-in-None g c =
    c.in_ok-push-in-None.ensures.bytes ∙ ap (λ l. string_bytes c.args.out.now ++ l) (bytes-itself_by c.args.escapes c.args.c (sym c.in-None.ensures))
