use Rattle.std.specs.Str.{str_to_ascii_lowercase, bytes_eq}
use Rattle.std.proofs.lemmas.Bool.Decides.{same_from_decides}
use Rattle.std.proofs.lemmas.Slice.Eq.{bytes_eq-Decides}
use Rattle.html5encodings.proofs.encoding.is_label.Goals as goal

pub returns : goal.returns
returns c =
    let label = str_to_ascii_lowercase c.args.label.now in
    let row = str_to_ascii_lowercase c.args.row.now in
    same_from_decides c.eq_ignore_ascii_case.result (bytes_eq label row) c.eq_ignore_ascii_case.ensures.test (bytes_eq-Decides label row)
