-- "EUC-JP decoder"
use Rattle.std.specs.Prelude.{ℕ, ◌+◌, ◌-◌, ◌*◌, ◌==◌, ◌&&◌, ◌||◌, nat_lt, Bool, false, not, is_none, List, [], ◌∷◌, Option, Some, None, if◌then◌else◌}
use Rattle.std.specs.Int.{is_in_range}
use Rattle.html5encodings.specs.declared.euc_jp.Lead.{Lead}
use Rattle.html5encodings.specs.declared.euc_jp.Lead.TheVariants.{First, Jis0212}
use Rattle.html5encodings.specs.IndexJis0208.{index_jis0208}
use Rattle.html5encodings.specs.IndexJis0212.{index_jis0212}
use Rattle.html5encodings.specs.Steps.{code_point_at, code_point_or_restored}

-- what a byte gives, and the lead that it leaves
abbrev pub Handled : Type 0
Handled = List ℕ × Option Lead

-- a byte after no lead
abbrev pub alone : ℕ → Handled
alone byte = if nat_lt byte 0x80 then (byte ∷ [], None)
    else (if byte == 0x8E || byte == 0x8F || is_in_range 0xA1 0xFE byte then ([], Some (First byte)) else (0xFFFD ∷ [], None))

-- the code point of a lead and a byte in an index
abbrev pub code_point_of : List ℕ → ℕ → ℕ → Option ℕ
code_point_of index lead byte = if is_in_range 0xA1 0xFE lead && is_in_range 0xA1 0xFE byte
    then code_point_at index ((lead - 0xA1) * 94 + (byte - 0xA1)) else None

-- a byte after a lead. After 0x8F a byte becomes the lead, and the jis0212 flag is set.
abbrev pub after_first : ℕ → ℕ → Handled
after_first lead byte = if lead == 0x8E && is_in_range 0xA1 0xDF byte then ((0xFF61 + (byte - 0xA1)) ∷ [], None)
    else (if lead == 0x8F && is_in_range 0xA1 0xFE byte then ([], Some (Jis0212 byte))
    else (code_point_or_restored (code_point_of index_jis0208 lead byte) byte, None))

abbrev pub handled : Option Lead → ℕ → Handled
handled None byte = alone byte
handled (Some (First lead)) byte = after_first lead byte
handled (Some (Jis0212 lead)) byte = (code_point_or_restored (code_point_of index_jis0212 lead byte) byte, None)

-- whether a byte is an error
abbrev pub is_error_after_first : ℕ → ℕ → Bool
is_error_after_first lead byte = if lead == 0x8E && is_in_range 0xA1 0xDF byte then false
    else (if lead == 0x8F && is_in_range 0xA1 0xFE byte then false
    else (is_none (code_point_of index_jis0208 lead byte)))

abbrev pub returns_error : Option Lead → ℕ → Bool
returns_error None byte = not (nat_lt byte 0x80 || byte == 0x8E || byte == 0x8F || is_in_range 0xA1 0xFE byte)
returns_error (Some (First lead)) byte = is_error_after_first lead byte
returns_error (Some (Jis0212 lead)) byte = is_none (code_point_of index_jis0212 lead byte)
