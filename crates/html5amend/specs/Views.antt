-- What the values of the program mean: vocabulary of proofs.
use Rattle.std.specs.Prelude.{length, nat_lt, ◌∷◌, Option, None, Some, string_bytes, if◌then◌else◌}
use Rattle.std.specs.VecDeque.{deque_capacity}
use Rattle.std.specs.declared.collections.VecDeque.{VecDeque}
use Rattle.html5splice.specs.Edits.{edit_by}
use Rattle.html5amend.specs.Open.{Found, OpenOf, counted_at}
use Rattle.html5amend.specs.Parts.{PartOf}
use Rattle.html5amend.specs.Places.{Amending, Waiting}
use Rattle.html5amend.specs.declared.amending.Change.{Change}
use Rattle.html5amend.specs.declared.amending.Change.TheVariants as change
use Rattle.html5amend.specs.declared.open.Count.{Count}
use Rattle.html5amend.specs.declared.open.Found.{Found as RustFound}
use Rattle.html5amend.specs.declared.open.Open.{Open}
use Rattle.html5amend.specs.declared.part.Part.{Part}

abbrev pub part_by : {Z : Type 0} → Part Z → PartOf
part_by part = record { before = string_bytes part.before; itself = edit_by part.itself; after = string_bytes part.after }

abbrev pub open_by : {Z : Type 0} → Open Z → OpenOf
open_by o = record { name = string_bytes o.name; depth = o.depth; ending = part_by o.ending; drops = o.drops }

abbrev pub found_by : {Z : Type 0} → RustFound Z → Found
found_by f = record { place = f.place; element = open_by f.element.now }

-- ---- what a change makes of those that wait

abbrev pub with_count : Option Count → Waiting → Waiting
with_count None w = w
with_count (Some count) w = record w { elements = counted_at count.place count.depth w.elements }

-- if there is room, which may come with the change
abbrev pub with_open : {Z : Type 0} → Open Z → Option (VecDeque (Open Z) Z) → Waiting → Waiting
with_open o None w = if nat_lt (length w.elements) w.places then record w { elements = open_by o ∷ w.elements } else w
with_open o (Some room) w =
    if nat_lt (length w.elements) (deque_capacity room) then record { elements = open_by o ∷ w.elements; places = deque_capacity room } else w

abbrev pub waiting_with : {Z : Type 0} → Change Z → Waiting → Waiting
waiting_with (change.Count count) w = with_count count w
waiting_with (change.Open o room) w = with_open o room w

abbrev pub amending_with : {Z : Type 0} → Amending → Change Z → Amending
amending_with s change = record s { waiting = waiting_with change s.waiting }
