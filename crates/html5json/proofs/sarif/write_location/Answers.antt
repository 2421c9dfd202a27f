use Rattle.html5json.proofs.Addings.{adds_after}
use Rattle.html5json.proofs.sarif.write_location.Goals as goal

pub returns : goal.returns
returns g c =
    let r = c.end_object.result in
    adds_after r _ c.begin_object.new.self _ _ _ c.in_ok-begin_object.ensures.ok c.in_ok-begin_object.ensures.room.0
    (adds_after r _ c.begin_member.new.writer _ _ _ c.in_ok-begin_member.ensures.ok c.in_ok-begin_member.ensures.kept
    (adds_after r _ c.write_place.new.writer _ _ _ c.in_ok-write_place.ensures.ok c.in_ok-write_place.ensures.kept
    (record { ok = c.end_object.ensures.ok; kept = c.end_object.ensures.room.0 })))
