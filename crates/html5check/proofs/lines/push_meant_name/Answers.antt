-- the search gives up at a text of this many characters
use Rattle.std.proofs.Common.{codes, ◌++◌, ap, ◌∙◌, append_assoc}
use Rattle.html5check.proofs.lines.push_meant_name.Goals as goal

pub returns : goal.returns
returns c =
    let line = c.args.line.now.items in
    let meant = c.args.meant.now in
    c.in_ok-extend_from_slice-3.ensures.items
    ∙ ap (λ l. l ++ codes "?") (c.in_ok-extend_from_slice-2.ensures.items ∙ ap (λ l. l ++ c.as_bytes.result.now) c.in_ok-extend_from_slice.ensures.items)
    ∙ ap (λ name. ((line ++ codes "; did you mean ") ++ name) ++ codes "?") c.as_bytes.ensures.value
    ∙ append_assoc (line ++ codes "; did you mean ") meant (codes "?")
    ∙ append_assoc line (codes "; did you mean ") (meant ++ codes "?")
