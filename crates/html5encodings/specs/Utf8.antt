-- "UTF-8 decoder"
use Rattle.std.specs.Prelude.{◌≡◌, ◌<◌, ◌≤◌, ◌⊎◌, ℕ, ◌+◌, ◌-◌, ◌*◌, ◌==◌, ◌||◌, nat_lt, Bool, not, List, [], ◌∷◌, Option, Some, None, if◌then◌else◌}
use Rattle.std.specs.Int.{is_in_range}
use Rattle.html5encodings.specs.declared.utf8.Partial.{Partial}

-- what a byte gives, and the part of a character that it leaves
abbrev pub Handled : Type 0
Handled = List ℕ × Option Partial

-- what the first byte of two, of three and of four bytes leaves
abbrev pub of_two : ℕ → Partial
of_two byte = record { code_point = byte - 0xC0; needed = 1; lower = 0x80; upper = 0xBF }

abbrev pub of_three : ℕ → Partial
of_three byte = record {
  code_point = byte - 0xE0;
  needed = 2;
  lower = if byte == 0xE0 then 0xA0 else 0x80;
  upper = if byte == 0xED then 0x9F else 0xBF;
}

abbrev pub of_four : ℕ → Partial
of_four byte = record {
  code_point = byte - 0xF0;
  needed = 3;
  lower = if byte == 0xF0 then 0x90 else 0x80;
  upper = if byte == 0xF4 then 0x8F else 0xBF;
}

-- a byte when none is needed
abbrev pub alone : ℕ → Handled
alone byte = if nat_lt byte 0x80 then (byte ∷ [], None)
    else (if is_in_range 0xC2 0xDF byte then ([], Some (of_two byte))
    else (if is_in_range 0xE0 0xEF byte then ([], Some (of_three byte))
    else (if is_in_range 0xF0 0xF4 byte then ([], Some (of_four byte)) else (0xFFFD ∷ [], None))))

-- the code point with one more byte
abbrev pub joined : Partial → ℕ → ℕ
joined p byte = p.code_point * 64 + (byte - 0x80)

-- a byte within the bounds
abbrev pub continued : Partial → ℕ → Handled
continued p byte = if p.needed == 1 then (joined p byte ∷ [], None)
    else ([], Some (record { code_point = joined p byte; needed = p.needed - 1; lower = 0x80; upper = 0xBF }))

-- a byte, where a part of a character may be there: out of the bounds it is an error, and is restored
abbrev pub handled : Option Partial → ℕ → Handled
handled None byte = alone byte
handled (Some p) byte = if is_in_range p.lower p.upper byte then (continued p byte) else (0xFFFD ∷ (alone byte).0, (alone byte).1)

-- what decoding leaves: bytes within the bounds complete it to a character
pub record IsPartial (p : Partial) : Type 0 where
  pub some : 0 < p.needed
  pub few : p.needed ≤ 3
  pub lower : 0x80 ≤ p.lower
  pub upper : p.upper ≤ 0xBF
  pub three : p.needed ≡ 3 → (p.code_point ≤ 4) × (p.code_point ≡ 0 → 0x90 ≤ p.lower) × (p.code_point ≡ 4 → p.upper ≤ 0x8F)
  pub two : p.needed ≡ 2 → (p.code_point ≤ 0x10F) × (p.code_point ≡ 0xD → p.upper ≤ 0x9F)
  pub one : p.needed ≡ 1 → (p.code_point ≤ 0x43FF) × ((p.code_point < 0x360) ⊎ (0x37F < p.code_point))

-- whether a byte is an error
abbrev pub returns_error : Option Partial → ℕ → Bool
returns_error None byte = not (nat_lt byte 0x80 || is_in_range 0xC2 0xF4 byte)
returns_error (Some p) byte = not (is_in_range p.lower p.upper byte)
