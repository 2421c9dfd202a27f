use Rattle.html5json.proofs.Addings.{adds_after}
use Rattle.html5json.proofs.tokens.write_attributes.Goals as goal

pub returns : goal.returns
returns g c = adds_after c.write_array.result _ _ _ _ _ c.in_ok-key.ensures.ok c.in_ok-key.ensures.room.0 c.write_array.ensures
