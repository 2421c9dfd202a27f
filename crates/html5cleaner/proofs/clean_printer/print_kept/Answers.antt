use Rattle.std.proofs.Common.{◌++◌, ap, sym, ◌∙◌, encode_utf8_all}
use Rattle.std.proofs.lemmas.Str.{encodes-chars}
use Rattle.html5cleaner.specs.Cleaning.{page_bytes}
use Rattle.html5cleaner.proofs.clean_printer.print_kept.Goals as goal

pub returns-in-Ok-print-clause-printed : goal.returns-in-Ok-print-clause-printed
returns-in-Ok-print-clause-printed g c =
    let encoded = sym (encodes-chars c.as_str.result.now c.as_str.utf8) ∙ ap encode_utf8_all c.as_str.ensures.written in
    let written = ap page_bytes c.in-Ok.ensures.written in
    c.in-Ok-print.ensures.ok ∙ ap (λ bytes. c.args.printer.now.printed ++ bytes) (c.as_bytes.ensures.value ∙ encoded ∙ written)
