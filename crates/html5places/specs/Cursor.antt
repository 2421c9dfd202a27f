-- The lines and the columns of many places of a text.
use Rattle.std.specs.Prelude.{ℕ, ◌+◌, ◌-◌, ◌&&◌, Bool, false, not, List, [], ◌∷◌, ◌==◌, if◌then◌else◌}
use Rattle.std.specs.Bool.{nat_le, nat_lt}
use Rattle.std.specs.Char.{len_utf8}
use Rattle.std.specs.Str.{chars}
use Rattle.html5places.specs.declared.positions.Position.{Position}
use Rattle.html5places.specs.declared.places_in_order.Cursor.{Cursor as RustCursor}
use Rattle.html5places.specs.Positions.{first_position, position_after, walked}
use Rattle.html5reading.specs.Characters.{carriage_return, line_feed}

-- the characters of a text that end at a place, which is a number of bytes, or before it
unfoldable pub characters_before : ℕ → List ℕ → List ℕ
characters_before place [] = []
characters_before place (c ∷ text) = if nat_le (len_utf8 c) place then c ∷ characters_before (place - len_utf8 c) text else []

-- the line and the columns after them
abbrev pub position_before : ℕ → List ℕ → Position
position_before place text = position_after (characters_before place text)

-- ---- words of the proofs

-- a character of ASCII that ends no line
abbrev pub is_plain : ℕ → Bool
is_plain byte = nat_lt byte 0x80 && (not (byte == line_feed) && not (byte == carriage_return))

-- where a walk through a text stands: what is left, the byte and the position that it has reached, and whether a CR stands before it
pub record Cursor : Type 0 where
  pub rest : List ℕ
  pub place : ℕ
  pub position : Position
  pub after_cr : Bool

abbrev pub cursor_by : RustCursor → Cursor
cursor_by k = record { rest = chars k.rest.now; place = k.place; position = k.position; after_cr = k.after_cr }

-- after the characters that end at a place or before it
unfoldable pub advanced : ℕ → ℕ → Position → Bool → List ℕ → Cursor
advanced to place position after_cr [] = record { rest = []; place = place; position = position; after_cr = after_cr }
advanced to place position after_cr (c ∷ rest) =
    if nat_le (len_utf8 c) (to - place) then advanced to (place + len_utf8 c) (walked position after_cr c) (c == carriage_return) rest
    else record { rest = c ∷ rest; place = place; position = position; after_cr = after_cr }

abbrev pub onward : ℕ → Cursor → Cursor
onward to k = advanced to k.place k.position k.after_cr k.rest

abbrev pub cursor_at : ℕ → List ℕ → Cursor
cursor_at to text = advanced to 0 first_position false text
