use Rattle.html5json.proofs.Addings.{adds_after}
use Rattle.html5json.proofs.tokens.write_doctype.Goals as goal

pub returns : goal.returns
returns g c =
    let r = c.end_with_flag.result in
    adds_after r _ c.write_type_and_line.new.writer _ _ _ c.in_ok-write_type_and_line.ensures.ok c.in_ok-write_type_and_line.ensures.kept
    (adds_after r _ c.write_option.new.writer _ _ _ c.in_ok-write_option.ensures.ok c.in_ok-write_option.ensures.kept
    (adds_after r _ c.write_option-2.new.writer _ _ _ c.in_ok-write_option-2.ensures.ok c.in_ok-write_option-2.ensures.kept
    (adds_after r _ c.write_option-3.new.writer _ _ _ c.in_ok-write_option-3.ensures.ok c.in_ok-write_option-3.ensures.kept
    c.end_with_flag.ensures)))
