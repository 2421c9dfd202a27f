use Rattle.std.proofs.Common.{ap, ◌∙◌, string_bytes}
use Rattle.std.specs.Str.{chars}
use Rattle.std.proofs.lemmas.Str.{IsUtf8-string_bytes}
use Rattle.html5reading.specs.Cdata.{open_cdata}
use Rattle.html5partial.proofs.HeldLetters.{chars-push}
use Rattle.html5partial.proofs.Sections.{section-pushed}
use Rattle.html5partial.proofs.cdata.push_text.Goals as goal

pub returns-clause-text : goal.returns-clause-text
returns-clause-text g c =
    let bytes = string_bytes c.args.at.now.comment in
    rw c.requires
    (ap (λ l. open_cdata (chars l)) c.in_ok-push.ensures.bytes
    ∙ ap open_cdata (chars-push bytes c.args.c (IsUtf8-string_bytes c.args.at.now.comment) c.ranges.c.0)
    ∙ section-pushed (chars bytes) c.args.c)
