-- The lines of a text. Each ends with LF, with CR, or with CR LF.
use Rattle.std.specs.Prelude.{ℕ, ◌+◌, ◌==◌, ◌&&◌, ◌||◌, not, Bool, false, List, [], ◌∷◌, take, if◌then◌else◌}

-- whether a line ends at a byte, which stands after a CR or not: LF after CR ends none, since CR ended it
abbrev pub ends_line : Bool → ℕ → Bool
ends_line after_cr byte = byte == 0x0D || (byte == 0x0A && not after_cr)

-- how many lines end in bytes that stand after a CR or not
abbrev pub line_ends : Bool → List ℕ → ℕ
line_ends after_cr [] = 0
line_ends after_cr (byte ∷ bytes) = (if ends_line after_cr byte then 1 else 0) + line_ends (byte == 0x0D) bytes

-- whether the text after these bytes follows a CR
abbrev pub ends_in_cr : Bool → List ℕ → Bool
ends_in_cr after_cr [] = after_cr
ends_in_cr after_cr (byte ∷ bytes) = ends_in_cr (byte == 0x0D) bytes

-- the line that a place in a text is on; the first is 1
abbrev pub line_at : ℕ → List ℕ → ℕ
line_at place text = 1 + line_ends false (take place text)
