-- The lines that say what was found.
use Rattle.std.specs.Prelude.{ℕ, List, [], ◌∷◌, ◌++◌, ◌||◌, ◌==◌, Option, None, Some, codes, decimal, if◌then◌else◌, nat_lt}
use Rattle.std.specs.List.{flat_map}
use Rattle.html5check.specs.Faults.{Finding, fault_code}
use Rattle.html5check.specs.Located.{Located}
use Rattle.html5places.specs.declared.positions.Position.{Position}

-- a byte of a name, an id or a message: a control character of ASCII is shown as `?`
abbrev pub shown_byte : ℕ → ℕ
shown_byte byte = if nat_lt byte 0x20 || (byte == 0x7F) then 0x3F else byte

unfoldable pub shown_bytes : List ℕ → List ℕ
shown_bytes [] = []
shown_bytes (byte ∷ bytes) = shown_byte byte ∷ shown_bytes bytes

-- a colon and the subject, if there is one
abbrev pub subject_shown : List ℕ → List ℕ
subject_shown [] = []
subject_shown (byte ∷ bytes) = codes ": " ++ shown_bytes (byte ∷ bytes)

-- what a misspelled name was meant for
abbrev pub meant_bytes : List ℕ → List ℕ
meant_bytes meant = codes "; did you mean " ++ (meant ++ codes "?")

abbrev pub meant_shown : Option (List ℕ) → List ℕ
meant_shown None = []
meant_shown (Some meant) = meant_bytes meant

-- a place: the file's name, the line and the column
abbrev pub place_shown : List ℕ → Position → List ℕ
place_shown file position = file ++ (codes ":" ++ (decimal position.line ++ (codes ":" ++ decimal position.column)))

-- the code, of what, and what it was meant for
abbrev pub finding_shown : Finding → List ℕ
finding_shown finding = fault_code finding.fault ++ (subject_shown finding.subject ++ meant_shown finding.meant)

abbrev pub line_of : List ℕ → Located → List ℕ
line_of file l = place_shown file l.position ++ (codes ": error: " ++ (finding_shown l.finding ++ codes "\n"))

-- those of many
unfoldable pub lines_of : List ℕ → List Located → List ℕ
lines_of file located = flat_map (line_of file) located
