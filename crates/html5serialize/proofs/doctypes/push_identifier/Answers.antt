use Rattle.std.proofs.Common.{◌++◌, string_bytes, ap, ◌∙◌}
use Rattle.html5serialize.specs.Doctypes.{quote_for}
use Rattle.html5serialize.proofs.Bytes.{bytes-closed, bytes-cut}
use Rattle.html5serialize.proofs.doctypes.push_identifier.Goals as goal

pub returns-in_ok-push_str-3 : goal.returns-in_ok-push_str-3
returns-in_ok-push_str-3 g c =
    c.in_ok-push_str-3.ensures.bytes
    ∙ ap (λ l. l ++ c.quote_for-quote.result.now) (c.in_ok-push_str-2.ensures.bytes ∙ ap (λ l. l ++ c.args.identifier.now) c.in_ok-push_str.ensures.bytes)
    ∙ rw (c.quote_for-quote.ensures, c.if-is_closed.true) (bytes-closed (string_bytes c.args.out.now) c.args.identifier.now (quote_for c.args.identifier.now) c.utf8.identifier)

pub returns-else-is_closed : goal.returns-else-is_closed
returns-else-is_closed g c =
    c.in_ok-push_str-2.ensures.bytes
    ∙ ap (λ l. l ++ c.args.identifier.now) c.in_ok-push_str.ensures.bytes
    ∙ rw (c.quote_for-quote.ensures, c.if-is_closed.false) (bytes-cut (string_bytes c.args.out.now) c.args.identifier.now (quote_for c.args.identifier.now) c.utf8.identifier)
