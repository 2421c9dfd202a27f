-- The text form of a table's entries: LIST is empty, or entries joined by commas, each NAME=HEX or NAME=HEX+HEX.
use Rattle.std.specs.Prelude.{ℕ, Bool, ◌==◌, ◌&&◌, ◌||◌, List, [], ◌∷◌, length, nat_lt, Option, None, Some, if◌then◌else◌}
use Rattle.std.specs.Char.{is_ascii_hexdigit}
use Rattle.std.specs.Int.{is_in_range}
use Rattle.std.specs.List.{after_first, before_first, list_all, position_or_len, slice_split}
use Rattle.std.specs.Option.{option_and_then, option_map, unwrap_or}
use Rattle.std.specs.Str.Parse.{digits_value}
use Rattle.markup5ever.specs.NamedReferences.{NamedReference}

-- ---- the signs between the parts

abbrev pub is_comma : ℕ → Bool
is_comma byte = byte == 44

abbrev pub is_equals_sign : ℕ → Bool
is_equals_sign byte = byte == 61

abbrev pub is_plus : ℕ → Bool
is_plus byte = byte == 43

-- the parts round the first such byte, if there is one
unfoldable pub parts_round : (ℕ → Bool) → List ℕ → Option (List ℕ × List ℕ)
parts_round p text =
    if nat_lt (position_or_len p text) (length text) then Some (before_first p text, after_first p text) else None

-- ---- the parts

-- a Unicode scalar value: the number of a character, and not that of a surrogate
abbrev pub is_character : ℕ → Bool
is_character number = nat_lt number 0xD800 || is_in_range 0xE000 0x10_FFFF number

-- one to six hexadecimal digits
abbrev pub is_hexadecimal : List ℕ → Bool
is_hexadecimal digits = is_in_range 1 6 (length digits) && list_all is_ascii_hexdigit digits

-- HEX: the character whose number these digits write
unfoldable pub character_said : List ℕ → Option ℕ
character_said digits =
    let number = digits_value 16 digits in
    if is_hexadecimal digits && is_character number then Some number else None

-- one character, or two if there are two parts
abbrev pub characters_said_by : List ℕ → Option (List ℕ × List ℕ) → Option (ℕ × Option ℕ)
characters_said_by text None = option_map (λ first. (first, None)) (character_said text)
characters_said_by text (Some parts) =
    option_and_then (λ first. option_map (λ second. (first, Some second)) (character_said parts.1)) (character_said parts.0)

-- HEX or HEX+HEX
unfoldable pub characters_said : List ℕ → Option (ℕ × Option ℕ)
characters_said text = characters_said_by text (parts_round is_plus text)

abbrev pub entry_with : List ℕ → ℕ → Option ℕ → NamedReference
entry_with name first second = record { name = name; first = first; second = second }

-- NAME=HEX or NAME=HEX+HEX, where NAME is whatever stands before the first equals sign
unfoldable pub entry_said : List ℕ → Option NamedReference
entry_said text =
    option_and_then (λ parts. option_map (λ characters. entry_with parts.0 characters.0 characters.1) (characters_said parts.1))
    (parts_round is_equals_sign text)

-- each text is an entry
unfoldable pub entries_said : List (List ℕ) → Option (List NamedReference)
entries_said [] = Some []
entries_said (text ∷ texts) =
    option_and_then (λ entry. option_map (λ entries. entry ∷ entries) (entries_said texts)) (entry_said text)

-- ---- the list

-- the entries of a list, if it has the form
unfoldable pub listed : List ℕ → Option (List NamedReference)
listed list = if length list == 0 then Some [] else entries_said (slice_split is_comma list)

-- the entries of a list that has the form
abbrev pub entries_in : List ℕ → List NamedReference
entries_in list = unwrap_or (listed list) []
