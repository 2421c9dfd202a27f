use Rattle.std.proofs.Common.{ap, ◌∙◌}
use Rattle.std.proofs.lemmas.Str.Ascii.{trim_ascii_start_is, trim_ascii_end_is}
use Rattle.html5encodings.specs.Encodings.{found, without_trailing}
use Rattle.html5encodings.specs.Labels.{labels}
use Rattle.html5encodings.proofs.LabelRows.{LABELS-is}
use Rattle.html5encodings.proofs.encoding.Encoding.for_label.Goals as goal

pub returns : goal.returns
returns c =
    let first = trim_ascii_start_is c.args.label.now c.trim_ascii_start.result.now c.trim_ascii_start.ensures.value in
    let second = trim_ascii_end_is c.trim_ascii_start.result.now c.trim_ascii_end.result.now c.trim_ascii_end.ensures.value in
    c.find.ensures ∙ ap (λ t. found t c.trim_ascii_end.result.now) LABELS-is ∙ ap (found labels) (second ∙ ap without_trailing first)
