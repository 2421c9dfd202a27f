use Rattle.std.proofs.Common.{ap, ◌∙◌, chars, arith, false}
use Rattle.html5places.proofs.Advancing.{further}
use Rattle.html5places.specs.Cursor.{cursor_at, onward}
use Rattle.html5places.specs.Positions.{first_position}
use Rattle.html5places.proofs.places_in_order.Positions.cursor_before.Goals as goal

pub returns-then-place-self : goal.returns-then-place-self
returns-then-place-self c =
    ap (onward c.args.place) c.new.ensures ∙ further 0 c.args.place 0 first_position false (chars c.self.inside.text.now) (grind (arith))
    ∙ ap (cursor_at c.args.place) c.self.view_is

pub returns-else-place-self : goal.returns-else-place-self
returns-else-place-self c =
    ap (onward c.args.place) c.self.invariant
    ∙ further c.self.inside.asked c.args.place 0 first_position false (chars c.self.inside.text.now) (grind (arith, c.if-place-self.false))
    ∙ ap (cursor_at c.args.place) c.self.view_is
