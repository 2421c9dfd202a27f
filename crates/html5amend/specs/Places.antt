-- How many waiting elements there is room for: vocabulary of proofs. That says nothing of what is written.
use Rattle.std.specs.Prelude.{ℕ, ◌+◌, ◌*◌, List, length, nat_lt, if◌then◌else◌}
use Rattle.html5splice.specs.Edits.{Splices}
use Rattle.html5amend.specs.Amending.{Amends, Move, amending_edits, move_of, moved}
use Rattle.html5amend.specs.Amending.Move.{Opens}
use Rattle.html5amend.specs.Open.{OpenOf}

-- those that wait, and the room for them
pub record Waiting : Type 0 where
  pub elements : List OpenOf
  pub places : ℕ

abbrev pub grown : ℕ → ℕ
grown count = count * 2 + 8

-- the room with one more
abbrev pub places_for : ℕ → ℕ → ℕ
places_for count places = if nat_lt count places then places else grown count

abbrev pub places_after : Move → Waiting → ℕ
places_after (Opens o) w = places_for (length w.elements) w.places
places_after other w = w.places

abbrev pub waiting_after : Move → Waiting → Waiting
waiting_after move w = record { elements = moved move w.elements; places = places_after move w }

-- a handler, and those that wait
pub record Amending : Type 0 where
  pub amends : Amends
  pub waiting : Waiting

abbrev pub amending_with_room : Splices Amending
amending_with_room = record {
  edits = λ s cut. amending_edits s.amends s.waiting.elements cut;
  step = λ s cut. record s { waiting = waiting_after (move_of s.amends s.waiting.elements cut.token) s.waiting };
}
