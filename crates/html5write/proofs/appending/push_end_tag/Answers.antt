use Rattle.std.proofs.Common.{◌++◌, string_bytes, ap, ◌∙◌, append_assoc}
use Rattle.std.specs.Prelude.{codes}
use Rattle.html5write.proofs.Bytes.{bytes-end_tag}
use Rattle.html5write.proofs.appending.push_end_tag.Goals as goal

pub returns-clause-ok : goal.returns-clause-ok
unfolding lib.Utf8.encode
returns-clause-ok g c =
    c.in_ok-push-3.ensures.bytes
    ∙ ap (λ l. l ++ codes ">")
    (c.in_ok-push_text.ensures.bytes
    ∙ ap (λ l. l ++ c.args.name.now)
    (c.in_ok-push-2.ensures.bytes ∙ ap (λ l. l ++ codes "/") c.in_ok-push.ensures.bytes ∙ append_assoc (string_bytes c.args.out.now) (codes "<") (codes "/")))
    ∙ bytes-end_tag (string_bytes c.args.out.now) c.args.name.now c.utf8.name
