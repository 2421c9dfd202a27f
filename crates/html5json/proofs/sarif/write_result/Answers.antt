use Rattle.html5json.proofs.Addings.{adds_after}
use Rattle.html5json.proofs.sarif.write_result.Goals as goal

pub returns : goal.returns
returns g c =
    let r = c.end_object.result in
    adds_after r _ c.begin_object.new.self _ _ _ c.in_ok-begin_object.ensures.ok c.in_ok-begin_object.ensures.room.0
    (adds_after r _ c.write_code.new.writer _ _ _ c.in_ok-write_code.ensures.ok c.in_ok-write_code.ensures.kept
    (adds_after r _ c.write_text.new.writer _ _ _ c.in_ok-write_text.ensures.ok c.in_ok-write_text.ensures.kept
    (adds_after r _ c.write_message.new.writer _ _ _ c.in_ok-write_message.ensures.ok c.in_ok-write_message.ensures.kept
    (adds_after r _ c.write_locations.new.writer _ _ _ c.in_ok-write_locations.ensures.ok c.in_ok-write_locations.ensures.kept
    (record { ok = c.end_object.ensures.ok; kept = c.end_object.ensures.room.0 })))))
