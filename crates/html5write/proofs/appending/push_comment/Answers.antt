use Rattle.std.proofs.Common.{◌++◌, string_bytes, ap, ◌∙◌}
use Rattle.std.specs.Prelude.{codes}
use Rattle.html5write.proofs.Bytes.{bytes-comment}
use Rattle.html5write.proofs.appending.push_comment.Goals as goal

pub returns-clause-ok : goal.returns-clause-ok
returns-clause-ok g c =
    c.in_ok-push_str-3.ensures.bytes
    ∙ ap (λ l. l ++ codes "-->") (c.in_ok-push_str-2.ensures.bytes ∙ ap (λ l. l ++ c.args.text.now) c.in_ok-push_str.ensures.bytes)
    ∙ bytes-comment (string_bytes c.args.out.now) c.args.text.now c.utf8.text
