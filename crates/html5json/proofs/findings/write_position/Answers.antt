use Rattle.html5json.proofs.Addings.{adds_after}
use Rattle.html5json.proofs.findings.write_position.Goals as goal

pub returns : goal.returns
returns g c =
    let r = c.write_number-3.result in
    adds_after r _ c.write_number.new.writer _ _ _ c.in_ok-write_number.ensures.ok c.in_ok-write_number.ensures.kept
    (adds_after r _ c.write_number-2.new.writer _ _ _ c.in_ok-write_number-2.ensures.ok c.in_ok-write_number-2.ensures.kept
    c.write_number-3.ensures)
