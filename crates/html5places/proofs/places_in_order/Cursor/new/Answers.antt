use Rattle.std.proofs.Common.{chars, sym}
use Rattle.html5places.proofs.Advancing.{at-start}
use Rattle.html5places.proofs.places_in_order.Cursor.new.Goals as goal

pub returns : goal.returns
returns c = sym (at-start (chars c.args.text.now))
