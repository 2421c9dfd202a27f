-- "gb18030 decoder", which is the "GBK decoder" too
use Rattle.std.specs.Prelude.{ℕ, ◌+◌, ◌-◌, ◌*◌, ◌==◌, ◌&&◌, ◌||◌, nat_lt, Bool, true, false, not, is_none, List, [], ◌∷◌, Option, Some, None, if◌then◌else◌}
use Rattle.std.specs.Int.{is_in_range}
use Rattle.html5encodings.specs.declared.gb18030.Lead.{Lead}
use Rattle.html5encodings.specs.declared.gb18030.Lead.TheVariants.{First, Second, Third}
use Rattle.html5encodings.specs.IndexGb18030.{index_gb18030}
use Rattle.html5encodings.specs.IndexGb18030Ranges.{index_gb18030_ranges}
use Rattle.html5encodings.specs.Steps.{code_point_at, code_point_or_error, code_point_or_restored}

-- the last row whose pointer is not above this one, else the row that was found before
abbrev pub last_range : List (ℕ × ℕ) → ℕ → ℕ × ℕ → ℕ × ℕ
last_range [] pointer found = found
last_range (row ∷ rows) pointer found = if nat_lt pointer row.0 then found else (last_range rows pointer row)

-- a number, if it is a code point that is not a surrogate: of a pointer below it always is
abbrev pub scalar_or_none : ℕ → Option ℕ
scalar_or_none c = if nat_lt c 0xD800 || is_in_range 0xE000 0x10FFFF c then Some c else None

abbrev pub code_point_in : ℕ × ℕ → ℕ → ℕ
code_point_in row pointer = row.1 + (pointer - row.0)

-- "Indexes", index gb18030 ranges code point
abbrev pub ranges_code_point : ℕ → Option ℕ
ranges_code_point pointer = if (nat_lt 39419 pointer && nat_lt pointer 189000) || nat_lt 1237575 pointer then None
    else (if pointer == 7457 then Some 0xE7C7 else (scalar_or_none (code_point_in (last_range index_gb18030_ranges pointer (0, 0x80)) pointer)))

-- the pointer of four bytes
abbrev pub four_pointer : ℕ → ℕ → ℕ → ℕ → ℕ
four_pointer first second third byte = (first - 0x81) * 12600 + (second - 0x30) * 1260 + (third - 0x81) * 10 + (byte - 0x30)

-- the code point of two bytes
abbrev pub two_code_point : ℕ → ℕ → Option ℕ
two_code_point first byte = if is_in_range 0x40 0x7E byte || is_in_range 0x80 0xFE byte
    then code_point_at index_gb18030 ((first - 0x81) * 190 + (byte - (if nat_lt byte 0x7F then 0x40 else 0x41)))
    else None

-- what a byte gives, and the bytes of a character that it leaves
abbrev pub Handled : Type 0
Handled = List ℕ × Option Lead

-- a byte after none
abbrev pub alone : ℕ → Handled
alone byte = if nat_lt byte 0x80 then (byte ∷ [], None)
    else (if byte == 0x80 then (0x20AC ∷ [], None)
    else (if is_in_range 0x81 0xFE byte then ([], Some (First byte)) else (0xFFFD ∷ [], None)))

abbrev pub after_first : ℕ → ℕ → Handled
after_first first byte = if is_in_range 0x30 0x39 byte then ([], Some (Second first byte))
    else (code_point_or_restored (two_code_point first byte) byte, None)

-- after two and three bytes, an error restores those after the first, and this one
abbrev pub handled : Option Lead → ℕ → Handled
handled None byte = alone byte
handled (Some (First first)) byte = after_first first byte
handled (Some (Second first second)) byte = if is_in_range 0x81 0xFE byte then ([], Some (Third first second byte))
    else (0xFFFD ∷ second ∷ (alone byte).0, (alone byte).1)
handled (Some (Third first second third)) byte = if is_in_range 0x30 0x39 byte
    then (code_point_or_error (ranges_code_point (four_pointer first second third byte)), None)
    else (0xFFFD ∷ second ∷ (after_first third byte).0, (after_first third byte).1)

-- whether a byte is an error
abbrev pub returns_error : Option Lead → ℕ → Bool
returns_error None byte = byte == 0xFF
returns_error (Some (First first)) byte = if is_in_range 0x30 0x39 byte then false else (is_none (two_code_point first byte))
returns_error (Some (Second first second)) byte = not (is_in_range 0x81 0xFE byte)
returns_error (Some (Third first second third)) byte = if is_in_range 0x30 0x39 byte
    then (is_none (ranges_code_point (four_pointer first second third byte))) else true
