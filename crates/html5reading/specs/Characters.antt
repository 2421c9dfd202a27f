-- The characters that have names, and the kinds of characters that the grammar speaks of. Their names are those of the standard's
-- states.
use Rattle.std.specs.Prelude.{ℕ, Bool, ◌==◌, ◌||◌, ◌&&◌, ◌%◌, nat_le, List, map, encode_utf8, if◌then◌else◌}
use Rattle.std.specs.Char.{to_ascii_lowercase}

abbrev pub null : ℕ
null = 0x0000

abbrev pub tab : ℕ
tab = 0x0009

abbrev pub line_feed : ℕ
line_feed = 0x000A

abbrev pub form_feed : ℕ
form_feed = 0x000C

abbrev pub carriage_return : ℕ
carriage_return = 0x000D

abbrev pub space : ℕ
space = 0x0020

abbrev pub exclamation_mark : ℕ
exclamation_mark = 0x0021

abbrev pub quotation_mark : ℕ
quotation_mark = 0x0022

abbrev pub number_sign : ℕ
number_sign = 0x0023

abbrev pub ampersand : ℕ
ampersand = 0x0026

abbrev pub apostrophe : ℕ
apostrophe = 0x0027

abbrev pub hyphen : ℕ
hyphen = 0x002D

abbrev pub solidus : ℕ
solidus = 0x002F

abbrev pub semicolon : ℕ
semicolon = 0x003B

abbrev pub less_than : ℕ
less_than = 0x003C

abbrev pub equals_sign : ℕ
equals_sign = 0x003D

abbrev pub greater_than : ℕ
greater_than = 0x003E

abbrev pub question_mark : ℕ
question_mark = 0x003F

abbrev pub capital_x : ℕ
capital_x = 0x0058

abbrev pub grave_accent : ℕ
grave_accent = 0x0060

abbrev pub small_x : ℕ
small_x = 0x0078

abbrev pub byte_order_mark : ℕ
byte_order_mark = 0xFEFF

abbrev pub replacement_character : ℕ
replacement_character = 0xFFFD

-- whether c is one of these, with both ends
abbrev pub is_between : ℕ → ℕ → ℕ → Bool
is_between low high c = nat_le low c && nat_le c high

-- "Preprocessing the input stream": a control other than NUL and white space, or one of the 66 noncharacters
unfoldable pub is_bad_character : ℕ → Bool
is_bad_character c =
    is_between 0x0001 0x0008 c || (c == 0x000B) || is_between 0x000E 0x001F c || is_between 0x007F 0x009F c
    || is_between 0xFDD0 0xFDEF c || nat_le 0xFFFE (c % 0x1_0000)

unfoldable pub is_white_space : ℕ → Bool
is_white_space c = (c == tab) || (c == line_feed) || (c == form_feed) || (c == space)

-- an ASCII letter
unfoldable pub is_letter : ℕ → Bool
is_letter c = is_between 0x0041 0x005A c || is_between 0x0061 0x007A c

-- "Numeric character reference end state": a number that no character has, or that of a surrogate
unfoldable pub is_no_character : ℕ → Bool
is_no_character c = is_between 0xD800 0xDFFF c || nat_le 0x11_0000 c

-- a character of a value: NUL is shown as U+FFFD
unfoldable pub shown : ℕ → ℕ
shown c = if c == null then replacement_character else c

-- the bytes of a character of a value
unfoldable pub value_bytes : ℕ → List ℕ
value_bytes c = encode_utf8 (shown c)

-- the bytes of a character of a name: a letter is shown in lower case
unfoldable pub name_bytes : ℕ → List ℕ
name_bytes c = encode_utf8 (to_ascii_lowercase (shown c))

-- a text with its ASCII letters in lower case
abbrev pub lower_case : List ℕ → List ℕ
lower_case text = map to_ascii_lowercase text
