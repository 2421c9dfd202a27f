use Rattle.html5json.proofs.Addings.{adds_after}
use Rattle.html5json.proofs.sarif.write_region.Goals as goal

pub returns : goal.returns
returns g c =
    let r = c.end_object.result in
    adds_after r _ c.write_number.new.writer _ _ _ c.in_ok-write_number.ensures.ok c.in_ok-write_number.ensures.kept
    (adds_after r _ c.write_number-2.new.writer _ _ _ c.in_ok-write_number-2.ensures.ok c.in_ok-write_number-2.ensures.kept
    (adds_after r _ c.write_number-3.new.writer _ _ _ c.in_ok-write_number-3.ensures.ok c.in_ok-write_number-3.ensures.kept
    (adds_after r _ c.write_length.new.writer _ _ _ c.in_ok-write_length.ensures.ok c.in_ok-write_length.ensures.kept
    (record { ok = c.end_object.ensures.ok; kept = c.end_object.ensures.room.0 }))))
