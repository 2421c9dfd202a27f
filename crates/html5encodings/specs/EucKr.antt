-- "EUC-KR decoder"
use Rattle.std.specs.Prelude.{ℕ, ◌+◌, ◌-◌, ◌*◌, ◌||◌, nat_lt, Bool, not, is_none, List, [], ◌∷◌, Option, Some, None, if◌then◌else◌}
use Rattle.std.specs.Int.{is_in_range}
use Rattle.html5encodings.specs.IndexEucKr.{index_euc_kr}
use Rattle.html5encodings.specs.Steps.{code_point_at, code_point_or_restored}

-- the code point of a lead and a byte
abbrev pub code_point_of : ℕ → ℕ → Option ℕ
code_point_of lead byte = if is_in_range 0x41 0xFE byte then code_point_at index_euc_kr ((lead - 0x81) * 190 + (byte - 0x41)) else None

-- what a byte gives, and the lead that it leaves
abbrev pub Handled : Type 0
Handled = List ℕ × Option ℕ

-- a byte after no lead
abbrev pub alone : ℕ → Handled
alone byte = if nat_lt byte 0x80 then (byte ∷ [], None)
    else (if is_in_range 0x81 0xFE byte then ([], Some byte) else (0xFFFD ∷ [], None))

abbrev pub handled : Option ℕ → ℕ → Handled
handled None byte = alone byte
handled (Some lead) byte = (code_point_or_restored (code_point_of lead byte) byte, None)

-- whether a byte is an error
abbrev pub returns_error : Option ℕ → ℕ → Bool
returns_error None byte = not (nat_lt byte 0x80 || is_in_range 0x81 0xFE byte)
returns_error (Some lead) byte = is_none (code_point_of lead byte)
