-- Elements that wait for their end tag, the innermost first.
use Rattle.std.specs.Prelude.{ℕ, zero, suc, ◌-◌, Bool, false, List, [], ◌∷◌, ◌==◌, Option, None, Some, if◌then◌else◌}
use Rattle.std.specs.Str.{bytes_eq}
use Rattle.html5elements.specs.Hidden.{depth_by_kind, has_content}
use Rattle.html5ever_interface.specs.Token.{TagOf}
use Rattle.html5amend.specs.Elements.{ElementOf, end_part, name_in_page}
use Rattle.html5amend.specs.Parts.{PartOf}

pub record OpenOf : Type 0 where
  pub name : List ℕ
  -- how many elements of that name are open: itself, and those in it
  pub depth : ℕ
  -- what happens to its end tag
  pub ending : PartOf
  -- whether its content is dropped
  pub drops : Bool

-- an element, after its start tag
abbrev pub opened : ElementOf → OpenOf
opened e = record { name = name_in_page e; depth = 1; ending = end_part e; drops = e.drops_content }

-- whether the content here is dropped
abbrev pub is_dropping : List OpenOf → Bool
is_dropping [] = false
is_dropping (o ∷ waiting) = o.drops

-- one that waits, and how many wait within it
pub record Found : Type 0 where
  pub place : ℕ
  pub element : OpenOf

-- The innermost of those that have a name, where the first one here has `place` others within it. Elements round one whose content
-- is dropped are not reached from within.
unfoldable pub found_from : ℕ → List ℕ → List OpenOf → Option Found
found_from place name [] = None
found_from place name (o ∷ waiting) =
    if bytes_eq o.name name then Some (record { place = place; element = o })
    else if o.drops then None
    else found_from (suc place) name waiting

abbrev pub found : List ℕ → List OpenOf → Option Found
found name waiting = found_from 0 name waiting

-- how many elements of a tag's name are open after it
abbrev pub depth_after : TagOf → ℕ → ℕ
depth_after tag depth = depth_by_kind tag.kind (has_content tag) depth

-- this many are open of the one at this place: at 0 it waits no more
unfoldable pub counted_at : ℕ → ℕ → List OpenOf → List OpenOf
counted_at place depth [] = []
counted_at zero depth (o ∷ waiting) = if depth == 0 then waiting else (record o { depth = depth } ∷ waiting)
counted_at (suc place) depth (o ∷ waiting) = o ∷ counted_at place depth waiting

abbrev pub counted_found : TagOf → Option Found → List OpenOf → List OpenOf
counted_found tag None waiting = waiting
counted_found tag (Some f) waiting = counted_at f.place (depth_after tag f.element.depth) waiting

-- the innermost element of a tag's name counts it
abbrev pub counted : TagOf → List OpenOf → List OpenOf
counted tag waiting = counted_found tag (found tag.name waiting) waiting

abbrev pub closed_found : Option Found → Option PartOf
closed_found None = None
closed_found (Some f) = if f.element.depth - 1 == 0 then Some f.element.ending else None

-- what happens to an end tag of this name, if it closes an element that waits
abbrev pub closed_by : List ℕ → List OpenOf → Option PartOf
closed_by name waiting = closed_found (found name waiting)
