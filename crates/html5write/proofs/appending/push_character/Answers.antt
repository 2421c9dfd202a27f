use Rattle.std.proofs.Common.{◌++◌, string_bytes, sym, ap, ◌∙◌}
use Rattle.html5write.proofs.Bytes.{bytes-reference, bytes-itself}
use Rattle.html5write.proofs.appending.push_character.Goals as goal

pub returns-in_ok-push_text-in-Some-clause-ok : goal.returns-in_ok-push_text-in-Some-clause-ok
returns-in_ok-push_text-in-Some-clause-ok g c =
    c.in_ok-push_text-in-Some.ensures.bytes
    ∙ ap (λ l. string_bytes c.args.out.now ++ l) (bytes-reference c.args.c c.in-Some.reference.now (sym c.in-Some.ensures))

pub returns-in_ok-push-in-None-clause-ok : goal.returns-in_ok-push-in-None-clause-ok
returns-in_ok-push-in-None-clause-ok g c =
    c.in_ok-push-in-None.ensures.bytes ∙ ap (λ l. string_bytes c.args.out.now ++ l) (bytes-itself c.args.c (sym c.in-None.ensures))
