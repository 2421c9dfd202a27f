-- "Big5 decoder"
use Rattle.std.specs.Prelude.{ℕ, ◌+◌, ◌-◌, ◌*◌, ◌==◌, ◌||◌, nat_lt, Bool, true, false, not, is_none, List, [], ◌∷◌, Option, Some, None, if◌then◌else◌}
use Rattle.std.specs.Int.{is_in_range}
use Rattle.html5encodings.specs.IndexBig5.{index_big5}
use Rattle.html5encodings.specs.Steps.{code_point_at, code_point_or_restored}

-- the pointer of a lead and a byte, where the byte may stand there
abbrev pub pointer_of : ℕ → ℕ → Option ℕ
pointer_of lead byte = if is_in_range 0x40 0x7E byte || is_in_range 0xA1 0xFE byte
    then Some ((lead - 0x81) * 157 + (byte - (if nat_lt byte 0x7F then 0x40 else 0x62)))
    else None

-- what a pointer gives: four stand for two code points each, and the others are in the index
abbrev pub pointed : Option ℕ → ℕ → List ℕ
pointed None byte = code_point_or_restored None byte
pointed (Some pointer) byte = if pointer == 1133 then (0xCA ∷ 0x304 ∷ [])
    else (if pointer == 1135 then (0xCA ∷ 0x30C ∷ [])
    else (if pointer == 1164 then (0xEA ∷ 0x304 ∷ [])
    else (if pointer == 1166 then (0xEA ∷ 0x30C ∷ [])
    else (code_point_or_restored (code_point_at index_big5 pointer) byte))))

-- what a byte gives, and the lead that it leaves
abbrev pub Handled : Type 0
Handled = List ℕ × Option ℕ

-- a byte after no lead
abbrev pub alone : ℕ → Handled
alone byte = if nat_lt byte 0x80 then (byte ∷ [], None)
    else (if is_in_range 0x81 0xFE byte then ([], Some byte) else (0xFFFD ∷ [], None))

abbrev pub handled : Option ℕ → ℕ → Handled
handled None byte = alone byte
handled (Some lead) byte = (pointed (pointer_of lead byte) byte, None)

-- whether a byte is an error: after no lead, and after a lead where the pointer gives nothing
abbrev pub points_nowhere : Option ℕ → Bool
points_nowhere None = true
points_nowhere (Some pointer) = if pointer == 1133 || pointer == 1135 || pointer == 1164 || pointer == 1166
    then false else (is_none (code_point_at index_big5 pointer))

abbrev pub returns_error : Option ℕ → ℕ → Bool
returns_error None byte = not (nat_lt byte 0x80 || is_in_range 0x81 0xFE byte)
returns_error (Some lead) byte = points_nowhere (pointer_of lead byte)
