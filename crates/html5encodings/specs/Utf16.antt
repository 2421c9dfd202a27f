-- "shared UTF-16 decoder"
use Rattle.std.specs.Prelude.{◌≤◌, ℕ, ◌+◌, ◌-◌, ◌*◌, Bool, true, false, not, ◌||◌, is_some, List, [], ◌∷◌, Option, Some, None, if◌then◌else◌}
use Rattle.std.specs.Int.{is_in_range}
use Rattle.html5encodings.specs.declared.utf16.SharedUtf16.{SharedUtf16}

-- what a code unit gives, and the lead surrogate that it leaves
abbrev pub HandledUnit : Type 0
HandledUnit = List ℕ × Option ℕ

-- a code unit after no lead surrogate
abbrev pub alone : ℕ → HandledUnit
alone unit = if is_in_range 0xD800 0xDBFF unit then ([], Some unit)
    else (if is_in_range 0xDC00 0xDFFF unit then (0xFFFD ∷ [], None) else (unit ∷ [], None))

-- a code unit: after a lead surrogate one that is not a trail surrogate is an error, and its bytes are
-- restored
abbrev pub handled_unit : Option ℕ → ℕ → HandledUnit
handled_unit None unit = alone unit
handled_unit (Some lead) unit = if is_in_range 0xDC00 0xDFFF unit then ((0x10000 + (lead - 0xD800) * 0x400 + (unit - 0xDC00)) ∷ [], None)
    else (0xFFFD ∷ (alone unit).0, (alone unit).1)

-- the code unit of two bytes
abbrev pub code_unit : Bool → ℕ → ℕ → ℕ
code_unit true first second = first * 256 + second
code_unit false first second = second * 256 + first

-- what a byte gives, and where it leaves the decoder
abbrev pub Handled : Type 0
Handled = List ℕ × SharedUtf16

abbrev pub second_byte : SharedUtf16 → HandledUnit → Handled
second_byte u h = (h.0, record { big_endian = u.big_endian; lead_byte = None; lead_surrogate = h.1 })

abbrev pub byte_after : Option ℕ → SharedUtf16 → ℕ → Handled
byte_after None u byte = ([], record { big_endian = u.big_endian; lead_byte = Some byte; lead_surrogate = u.lead_surrogate })
byte_after (Some lead) u byte = second_byte u (handled_unit u.lead_surrogate (code_unit u.big_endian lead byte))

abbrev pub handled : SharedUtf16 → ℕ → Handled
handled u byte = byte_after u.lead_byte u byte

-- the end after a byte or a lead surrogate is an error
abbrev pub is_begun : SharedUtf16 → Bool
is_begun u = is_some u.lead_byte || is_some u.lead_surrogate

pub record IsLeadSurrogate (unit : ℕ) : Type 0 where
  pub from : 0xD800 ≤ unit
  pub to : unit ≤ 0xDBFF

-- whether a code unit is an error: a trail surrogate after no lead, and another unit after a lead
abbrev pub is_unit_error : Option ℕ → ℕ → Bool
is_unit_error None unit = is_in_range 0xDC00 0xDFFF unit
is_unit_error (Some lead) unit = not (is_in_range 0xDC00 0xDFFF unit)

-- whether a byte is an error
abbrev pub is_error_after : Option ℕ → SharedUtf16 → ℕ → Bool
is_error_after None u byte = false
is_error_after (Some lead) u byte = is_unit_error u.lead_surrogate (code_unit u.big_endian lead byte)

abbrev pub returns_error : SharedUtf16 → ℕ → Bool
returns_error u byte = is_error_after u.lead_byte u byte
