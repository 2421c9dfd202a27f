use Rattle.html5json.proofs.Addings.{adds_after}
use Rattle.html5json.proofs.sarif.write_place.Goals as goal

pub returns : goal.returns
returns g c =
    let r = c.end_object.result in
    adds_after r _ c.write_text_in.new.writer _ _ _ c.in_ok-write_text_in.ensures.ok c.in_ok-write_text_in.ensures.kept
    (adds_after r _ c.begin_member.new.writer _ _ _ c.in_ok-begin_member.ensures.ok c.in_ok-begin_member.ensures.kept
    (adds_after r _ c.write_region.new.writer _ _ _ c.in_ok-write_region.ensures.ok c.in_ok-write_region.ensures.kept
    (record { ok = c.end_object.ensures.ok; kept = c.end_object.ensures.room.0 })))
