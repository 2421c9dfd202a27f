-- The line and the column of a place in a text, as editors count them.
use Rattle.std.specs.Prelude.{ℕ, ◌+◌, ◌-◌, ◌^◌, min, Bool, false, List, [], ◌∷◌, ◌==◌, ◌&&◌, nat_lt, if◌then◌else◌}
use Rattle.html5places.specs.declared.positions.Position.{Position}
use Rattle.html5reading.specs.Characters.{carriage_return, line_feed}
use Rattle.html5reading.specs.NormalisedText.{with_line_feeds}

-- the highest number of a line or a column
abbrev pub highest : ℕ
highest = 2 ^ 64 - 1

-- how many UTF-16 code units a character takes
abbrev pub utf16_len : ℕ → ℕ
utf16_len c = if nat_lt c 0x10000 then 1 else 2

-- the first place of a text
abbrev pub first_position : Position
first_position = record { line = 1; column = 1; utf16_column = 1 }

-- the place after a character: LF ends a line
abbrev pub past_character : Position → ℕ → Position
past_character p c =
    if c == line_feed then record { line = min (p.line + 1) highest; column = 1; utf16_column = 1 }
    else record { line = p.line; column = min (p.column + 1) highest; utf16_column = min (p.utf16_column + utf16_len c) highest }

unfoldable pub past_characters : Position → List ℕ → Position
past_characters p [] = p
past_characters p (c ∷ text) = past_characters (past_character p c) text

-- the place after a text, in which each CR LF, and each other CR, is a line break as LF is
abbrev pub position_after : List ℕ → Position
position_after text = past_characters first_position (with_line_feeds false text)

-- ---- words of the proofs

-- the place after this many characters of ASCII that end no line
abbrev pub along : Position → ℕ → Position
along p count = record { line = p.line; column = min (p.column + count) highest; utf16_column = min (p.utf16_column + count) highest }

-- the same after one more character, where `after_cr` says that a CR stands before it
abbrev pub walked : Position → Bool → ℕ → Position
walked p after_cr c = if after_cr && (c == line_feed) then p else (past_character p (if c == carriage_return then line_feed else c))
