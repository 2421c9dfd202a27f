-- "Shift_JIS decoder"
use Rattle.std.specs.Prelude.{ℕ, ◌+◌, ◌-◌, ◌*◌, ◌||◌, nat_lt, Bool, not, is_none, List, [], ◌∷◌, Option, Some, None, if◌then◌else◌}
use Rattle.std.specs.Int.{is_in_range}
use Rattle.html5encodings.specs.IndexJis0208.{index_jis0208}
use Rattle.html5encodings.specs.Steps.{code_point_at, code_point_or_restored}

-- the pointer of a lead and a byte, where the byte may stand there
abbrev pub pointer_of : ℕ → ℕ → Option ℕ
pointer_of lead byte = if is_in_range 0x40 0x7E byte || is_in_range 0x80 0xFC byte
    then Some ((lead - (if nat_lt lead 0xA0 then 0x81 else 0xC1)) * 188 + (byte - (if nat_lt byte 0x7F then 0x40 else 0x41)))
    else None

-- the code point of a pointer: 1,880 are for private use, and the others are in the index
abbrev pub code_point_of : Option ℕ → Option ℕ
code_point_of None = None
code_point_of (Some pointer) = if is_in_range 8836 10715 pointer then Some (0xE000 + (pointer - 8836)) else (code_point_at index_jis0208 pointer)

-- what a byte gives, and the lead that it leaves
abbrev pub Handled : Type 0
Handled = List ℕ × Option ℕ

-- a byte after no lead
abbrev pub alone : ℕ → Handled
alone byte = if nat_lt byte 0x81 then (byte ∷ [], None)
    else (if is_in_range 0xA1 0xDF byte then ((0xFF61 + (byte - 0xA1)) ∷ [], None)
    else (if is_in_range 0x81 0x9F byte || is_in_range 0xE0 0xFC byte then ([], Some byte) else (0xFFFD ∷ [], None)))

abbrev pub handled : Option ℕ → ℕ → Handled
handled None byte = alone byte
handled (Some lead) byte = (code_point_or_restored (code_point_of (pointer_of lead byte)) byte, None)

-- whether a byte is an error
abbrev pub returns_error : Option ℕ → ℕ → Bool
returns_error None byte = not (nat_lt byte 0xA0 || is_in_range 0xA1 0xFC byte)
returns_error (Some lead) byte = is_none (code_point_of (pointer_of lead byte))
