-- Character references: `&` and a name of the table, or `&#` and a number. The held text is the longest prefix of the text
-- after `&` that leaves the reference undecided. The character after it decides, or the end.
-- The slices at the end are vocabulary of proofs: `html5grammar/specs/Reference` says how a reference is written.
use Rattle.std.specs.Prelude.{ℕ, ◌+◌, ◌-◌, ◌%◌, ◌^◌, suc, Bool, true, false, List, [], ◌∷◌, ◌++◌, ◌==◌, ◌||◌, ◌&&◌, nat_lt, nat_eq, length, drop, replicate, codes, encode_utf8, map, Option, Some, None, not, flat_map, encode_utf8_all, if◌then◌else◌}
use Rattle.std.specs.Option.{is_none, unwrap_or}
use Rattle.std.specs.List.{list_all, starts_with}
use Rattle.std.specs.Char.{is_ascii_alphanumeric, is_ascii_digit, is_ascii_hexdigit}
use Rattle.std.specs.Fmt.{digits}
use Rattle.std.specs.Str.Parse.{digits_value}
use Rattle.html5ever_interface.specs.Token.{Told}
use Rattle.html5ever_interface.specs.Token.Told.{Text, Error}
use Rattle.html5reading.specs.Characters.{null, number_sign, ampersand, semicolon, equals_sign, capital_x, small_x, replacement_character, is_bad_character, is_no_character, value_bytes}
use Rattle.html5reading.specs.ErrorText.{where_true}
use Rattle.html5reading.specs.Slice.{Slice, Late, no_character, cut_off, with_run, silent, run_while, after_while}
use Rattle.html5reading.specs.Slice.Afterwards.{Leaves, Settles}
use Rattle.html5reading.specs.Slice.Cell.{Returns}
use Rattle.html5reading.specs.Start.{OpenTag, Stand, Open, Rules}
use Rattle.html5reading.specs.Start.Open.{Between, InTag, InReference}
use Rattle.html5reading.specs.Start.Place.{InValue}
use Rattle.html5reading.specs.Start.Stand.{InText, InAttribute}
use Rattle.markup5ever.specs.C1.{character_of_c1}
use Rattle.markup5ever.specs.NamedReferences.{NamedReference, begins_name}

-- what a reference comes to: how many characters after `&` it takes, its errors, and its characters
pub record Found : Type 0 where
  pub taken : ℕ
  pub errors : List Told
  pub first : ℕ
  pub more : List ℕ

abbrev pub characters_in : Found → List ℕ
characters_in found = found.first ∷ found.more

-- "Ambiguous ampersand state", and when nothing begins: there is no reference, and `&` is text
abbrev pub no_reference : List Told → Found
no_reference errors = record { taken = 0; errors = errors; first = ampersand; more = [] }

-- one error, as a list
abbrev pub error : List ℕ → List Told
error message = Error message ∷ []

-- the tag with more of its last attribute's value
abbrev pub with_value : OpenTag → List ℕ → OpenTag
with_value tag run = record tag { last_value = tag.last_value ++ flat_map value_bytes run }

-- ---- numbers: the text after `&#`

-- "Numeric character reference state": whether c is an `x` or `X`
abbrev pub is_x : ℕ → Bool
is_x c = (c == small_x) || (c == capital_x)

-- "Numeric character reference state": the digits after an `x` are those of base 16, and else of base 10
abbrev pub base_of : List ℕ → ℕ
base_of [] = 10
base_of (c ∷ text) = if is_x c then 16 else 10

-- "Hexadecimal character reference state" and "Decimal character reference state": whether d is a digit there
abbrev pub is_digit_of : List ℕ → ℕ → Bool
is_digit_of [] d = is_ascii_digit d
is_digit_of (c ∷ text) d = if is_x c then is_ascii_hexdigit d else is_ascii_digit d

-- the text after the `x`, if there is one
abbrev pub after_x : List ℕ → List ℕ
after_x [] = []
after_x (c ∷ text) = if is_x c then text else c ∷ text

-- whether the text after `&#` is digits of the base alone
unfoldable pub is_number : List ℕ → Bool
is_number text = list_all (is_digit_of text) (after_x text)

-- "Hexadecimal character reference start state" and "Decimal character reference start state": whether there is a digit
unfoldable pub has_digits : List ℕ → Bool
has_digits text = not (nat_eq (length (after_x text)) 0)

-- "Hexadecimal character reference state" and "Decimal character reference state": the number that the digits write, without a
-- bound
unfoldable pub number_value : List ℕ → ℕ
number_value text = digits_value (base_of text) (after_x text)

-- "Numeric character reference end state": U+FFFD where the number has no character, and another for a control above U+007F
unfoldable pub character_of_number : ℕ → ℕ
character_of_number v =
    if (v == null) || is_no_character v then replacement_character else unwrap_or (character_of_c1 v) v

-- "Numeric character reference end state": the numbers that are errors
unfoldable pub is_invalid_number : ℕ → Bool
is_invalid_number v = (v == null) || (v == 0x000D) || is_no_character v || is_bad_character v

-- a number in capital hexadecimal digits, of which there are at least six
unfoldable pub six_digits : ℕ → List ℕ
six_digits v = let shown : List ℕ = digits 16 true v in replicate (6 - length shown) 0x30 ++ shown

-- the message of such an error
unfoldable pub invalid_number : Bool → ℕ → List ℕ
invalid_number exact v =
    if exact then codes "Invalid numeric character reference value 0x" ++ six_digits (v % 2 ^ 32)
    else codes "Invalid numeric character reference"

-- "Hexadecimal character reference state" and "Decimal character reference state": a semicolon after a number belongs to it
abbrev pub semicolon_len : Option ℕ → ℕ
semicolon_len None = 0
semicolon_len (Some c) = if c == semicolon then 1 else 0

-- the error of a number that has no semicolon after it
unfoldable pub unended_number : Option ℕ → List Told
unended_number None = error (codes "EOF in numeric character reference")
unended_number (Some c) = where_true (not (c == semicolon)) (Error (codes "Semicolon missing after numeric character reference"))

-- "Hexadecimal character reference start state" and "Decimal character reference start state": the error of a number without
-- digits
unfoldable pub without_digits : List ℕ → Option ℕ → List ℕ
without_digits [] None = codes "EOF after '#' in character reference"
without_digits text next = codes "Numeric character reference without digits"

-- "Numeric character reference end state": the reference whose number is written, before the next character
unfoldable pub number_reference : Bool → List ℕ → Option ℕ → Found
number_reference exact text next =
    if has_digits text then record {
      taken = suc (length text) + semicolon_len next;
      errors = unended_number next ++ where_true (is_invalid_number (number_value text)) (Error (invalid_number exact (number_value text)));
      first = character_of_number (number_value text);
      more = [];
    }
    else no_reference (error (without_digits text next))

-- ---- names

-- the one with the longer name
abbrev pub longer : NamedReference → Option NamedReference → NamedReference
longer entry None = entry
longer entry (Some other) = if nat_lt (length entry.name) (length other.name) then other else entry

-- "Named character reference state": the entry with the longest name that begins the text
unfoldable pub longest_name : List NamedReference → List ℕ → Option NamedReference
longest_name [] text = None
longest_name (entry ∷ references) text =
    if starts_with nat_eq text entry.name then Some (longer entry (longest_name references text)) else longest_name references text

-- the second character of an entry, if it has one
abbrev pub second_of : Option ℕ → List ℕ
second_of None = []
second_of (Some c) = c ∷ []

-- whether a name ends with a semicolon
unfoldable pub is_ended : List ℕ → Bool
is_ended [] = false
is_ended (c ∷ []) = c == semicolon
is_ended (c ∷ d ∷ name) = is_ended (d ∷ name)

-- the first character of a text, or the one after it
abbrev pub first_or : List ℕ → Option ℕ → Option ℕ
first_or [] next = next
first_or (c ∷ text) next = Some c

-- "Named character reference state": in a value a name without a semicolon is not a reference before `=`, a letter or a digit
abbrev pub goes_on : Option ℕ → Bool
goes_on None = false
goes_on (Some c) = (c == equals_sign) || is_ascii_alphanumeric c

abbrev pub in_value : Stand → Bool
in_value (InText mode) = false
in_value (InAttribute kind tag) = true

-- "Ambiguous ampersand state": the message of letters and digits, up to a semicolon, that no name begins
unfoldable pub unknown_name : Bool → List ℕ → List ℕ
unknown_name exact held =
    if exact then codes "Invalid character reference &" ++ (encode_utf8_all held ++ codes ";") else codes "Invalid character reference"

-- "Ambiguous ampersand state": letters and digits that no name begins are text, with an error where a semicolon follows
unfoldable pub no_name : Bool → List ℕ → Option ℕ → Found
no_name exact [] next = no_reference []
no_name exact (c ∷ held) None = no_reference []
no_name exact (c ∷ held) (Some d) = no_reference (where_true (d == semicolon) (Error (unknown_name exact (c ∷ held))))

-- "Named character reference state": what the longest name comes to
unfoldable pub named_reference : Bool → Bool → List ℕ → Option ℕ → Option NamedReference → Found
named_reference exact in_value held next None = no_name exact held next
named_reference exact in_value held next (Some entry) =
    let n : ℕ = length entry.name in
    if is_ended entry.name then record { taken = n; errors = []; first = entry.first; more = second_of entry.second }
    else if in_value && goes_on (first_or (drop n held) next) then no_reference []
    else record { taken = n; errors = error (codes "Character reference does not end with semicolon"); first = entry.first; more = second_of entry.second }

-- ---- references

-- "Character reference state": whether the text after `&` leaves a reference undecided
unfoldable pub is_undecided : List NamedReference → List ℕ → Bool
is_undecided references [] = true
is_undecided references (c ∷ held) =
    if c == number_sign then is_number held
    else begins_name references (c ∷ held) || (list_all is_ascii_alphanumeric (c ∷ held) && is_none (longest_name references (c ∷ held)))

-- "Character reference state": the reference, in a value or not, where so much was held and that follows, which is `None` at the
-- end
unfoldable pub reference : Rules → Bool → List ℕ → Option ℕ → Found
reference rules in_value [] next = no_reference []
reference rules in_value (c ∷ held) next =
    if c == number_sign then number_reference rules.exact held next
    else named_reference rules.exact in_value (c ∷ held) next (longest_name rules.references (c ∷ held))

-- "Hexadecimal character reference state" and "Decimal character reference state": whether c is the semicolon of a number
unfoldable pub ends_number : List ℕ → ℕ → Bool
ends_number [] c = false
ends_number (d ∷ held) c = (d == number_sign) && (has_digits held && (c == semicolon))

-- what is sent of characters where the reference stands. In a value they are put to it.
abbrev pub text_in : Stand → List ℕ → List Told
text_in (InText mode) characters = map (λ c. Text (encode_utf8 c)) characters
text_in (InAttribute kind tag) characters = []

-- what is open after these characters
abbrev pub opened_in : Stand → List ℕ → Open
opened_in (InText mode) characters = Between mode
opened_in (InAttribute kind tag) characters = InTag (InValue kind) (with_value tag characters)

-- what a reference tells: its errors, and then its characters
abbrev pub told_of : Stand → Found → List Told
told_of stand found = found.errors ++ text_in stand (characters_in found)

-- the characters that were held and not taken, each at its own place
unfoldable pub held_text : Stand → List ℕ → List Late
held_text stand [] = []
held_text stand (c ∷ held) =
    map (λ token. record { token = token; back = suc (suc (length held)); is_at = true; is_held = true }) (text_in stand (c ∷ [])) ++ held_text stand held

-- a reference's own tokens stand before the first character that it doesn't take
abbrev pub late_tokens : Stand → Found → List ℕ → List Late
late_tokens stand found held =
    map (λ token. record { token = token; back = suc (length held) - found.taken; is_at = false; is_held = false }) (told_of stand found)
    ++ held_text stand (drop found.taken held)

-- what is open after the reference, and after what was held and not taken
abbrev pub opened_after : Stand → Found → List ℕ → Open
opened_after stand found held = opened_in stand (characters_in found ++ drop found.taken held)

-- "Character reference state", at the character after the held text
unfoldable pub after_held : Rules → Stand → List ℕ → List ℕ → Slice
after_held rules stand held [] = cut_off (InReference stand held)
after_held rules stand held (c ∷ text) =
    let found : Found = reference rules (in_value stand) held (Some c) in
    if ends_number held c then record { cells = Returns (late_tokens stand found held) (opened_after stand found held) ∷ []; afterwards = Leaves [] (opened_after stand found held) }
    else no_character (Settles (late_tokens stand found held) (opened_after stand found held))

-- "Character reference state": a reference, of which so much was held
unfoldable pub reference_text : Rules → Stand → List ℕ → List ℕ → Slice
reference_text rules stand held text =
    let run : List ℕ = run_while (is_undecided rules.references) held text in
    with_run silent run (after_held rules stand (held ++ run) (after_while (is_undecided rules.references) held text))
