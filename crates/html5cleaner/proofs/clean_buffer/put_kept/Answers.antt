use Rattle.std.proofs.Common.{ap, sym, ◌∙◌, encode_utf8_all}
use Rattle.std.proofs.lemmas.Str.{encodes-chars}
use Rattle.html5cleaner.specs.Cleaning.{page_bytes}
use Rattle.outbox.specs.Outgoing.{adding}
use Rattle.html5cleaner.proofs.clean_buffer.put_kept.Goals as goal

pub returns-in-Ok-push-clause-put : goal.returns-in-Ok-push-clause-put
returns-in-Ok-push-clause-put g c =
    let encoded = sym (encodes-chars c.as_str.result.now c.as_str.utf8) ∙ ap encode_utf8_all c.as_str.ensures.written in
    let written = ap page_bytes c.in-Ok.ensures.written in
    c.in-Ok-push.ensures.ok ∙ ap (adding c.args.out.now) (c.as_bytes.ensures.value ∙ encoded ∙ written)
