-- Messages as they are read. These are vocabulary of proofs: `saw`, `saw_end` (`html5reading`, `ErrorText`) and `fixed_text`
-- (`html5ever_interface`, `Message`) say how messages are written.
use Rattle.std.specs.Prelude.{ℕ, ◌==◌, List, [], ◌∷◌, codes, drop, Option, None, Some, if◌then◌else◌}
use Rattle.std.specs.Char.{len_utf8}
use Rattle.std.specs.Option.{option_and_then}
use Rattle.std.specs.Str.{bytes_eq, chars}
use Rattle.html5errors.specs.Codes.{code_in, end_code_in}
use Rattle.html5errors.specs.StateNames.{state_named}
use Rattle.html5errors.specs.declared.codes.ErrorCode.{ErrorCode}
use Rattle.html5errors.specs.declared.codes.ErrorCode.TheVariants as code

-- the text after a word, if the text begins with it
unfoldable pub after_word : List ℕ → List ℕ → Option (List ℕ)
after_word [] text = Some text
after_word (c ∷ word) [] = None
after_word (c ∷ word) (d ∷ text) = if c == d then after_word word text else None

-- of a text with these characters: the first, and the text after it
abbrev pub first_and_rest : List ℕ → List ℕ → Option (ℕ × List ℕ)
first_and_rest [] text = None
first_and_rest (c ∷ more) text = Some (c, drop (len_utf8 c) text)

-- the first character of a text, and the text after it
unfoldable pub split_first : List ℕ → Option (ℕ × List ℕ)
split_first text = first_and_rest (chars text) text

-- the code of a character in the state of that name
abbrev pub code_named : ℕ → List ℕ → Option ErrorCode
code_named c name = option_and_then (λ state. code_in state c) (state_named name)

-- the code of the end in the state of that name
abbrev pub end_code_named : List ℕ → Option ErrorCode
end_code_named name = option_and_then end_code_in (state_named name)

-- the code of a character, by the text after it
abbrev pub code_by_place : ℕ → List ℕ → Option ErrorCode
code_by_place c place = option_and_then (code_named c) (after_word (codes " in state ") place)

-- the code where a character was seen
unfoldable pub code_of_character : List ℕ → Option ErrorCode
code_of_character seen = option_and_then (λ split. code_by_place split.0 split.1) (split_first seen)

-- the code where the end was seen, in the state of the name that follows, or else a character
abbrev pub code_where_end : Option (List ℕ) → List ℕ → Option ErrorCode
code_where_end None seen = code_of_character seen
code_where_end (Some name) seen = end_code_named name

abbrev pub code_of_seen : List ℕ → Option ErrorCode
code_of_seen seen = code_where_end (after_word (codes "EOF in state ") seen) seen

-- the code of a message that names nothing of the text
unfoldable pub code_of_fixed : List ℕ → Option ErrorCode
code_of_fixed message =
    if bytes_eq message (codes "Duplicate attribute") then Some code.DuplicateAttribute
    else if bytes_eq message (codes "Attributes on an end tag") then Some code.EndTagWithAttributes
    else if bytes_eq message (codes "Self-closing end tag") then Some code.EndTagWithTrailingSolidus
    else if bytes_eq message (codes "Character reference does not end with semicolon") then Some code.MissingSemicolonAfterCharacterReference
    else if bytes_eq message (codes "EOF in numeric character reference") then Some code.MissingSemicolonAfterCharacterReference
    else if bytes_eq message (codes "Semicolon missing after numeric character reference") then Some code.MissingSemicolonAfterCharacterReference
    else if bytes_eq message (codes "Invalid character reference") then Some code.UnknownNamedCharacterReference
    else if bytes_eq message (codes "Numeric character reference without digits") then Some code.AbsenceOfDigitsInNumericCharacterReference
    else if bytes_eq message (codes "EOF after '#' in character reference") then Some code.AbsenceOfDigitsInNumericCharacterReference
    else None

-- the code of a message, by the text after its first word, if that is "Saw"
abbrev pub code_where_saw : Option (List ℕ) → List ℕ → Option ErrorCode
code_where_saw None message = code_of_fixed message
code_where_saw (Some seen) message = code_of_seen seen

abbrev pub code_of_message : List ℕ → Option ErrorCode
code_of_message message = code_where_saw (after_word (codes "Saw ") message) message
