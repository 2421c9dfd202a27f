use Rattle.html5json.proofs.Addings.{adds_after}
use Rattle.html5json.proofs.findings.write_fault.Goals as goal

pub returns : goal.returns
returns g c =
    let r = c.end_with_option.result in
    adds_after r _ c.write_code.new.writer _ _ _ c.in_ok-write_code.ensures.ok c.in_ok-write_code.ensures.kept
    (adds_after r _ c.write_text.new.writer _ _ _ c.in_ok-write_text.ensures.ok c.in_ok-write_text.ensures.kept
    c.end_with_option.ensures)
