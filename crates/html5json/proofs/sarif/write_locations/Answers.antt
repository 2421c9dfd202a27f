use Rattle.html5json.proofs.Addings.{adds_after}
use Rattle.html5json.proofs.sarif.write_locations.Goals as goal

pub returns : goal.returns
returns g c =
    let r = c.end_array.result in
    adds_after r _ c.key.new.self _ _ _ c.in_ok-key.ensures.ok c.in_ok-key.ensures.room.0
    (adds_after r _ c.begin_array.new.self _ _ _ c.in_ok-begin_array.ensures.ok c.in_ok-begin_array.ensures.room.0
    (adds_after r _ c.write_location.new.writer _ _ _ c.in_ok-write_location.ensures.ok c.in_ok-write_location.ensures.kept
    (record { ok = c.end_array.ensures.ok; kept = c.end_array.ensures.room.0 })))
