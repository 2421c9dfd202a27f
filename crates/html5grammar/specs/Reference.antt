-- One character reference as source text, and what it tells.
use Rattle.std.specs.Prelude.{◌≡◌, ℕ, Bool, true, false, List, [], ◌∷◌, ◌++◌, ◌&&◌, not, nat_eq, length, map, codes, encode_utf8, encode_utf8_all, Option, None, Some, if◌then◌else◌}
use Rattle.std.specs.Char.{is_ascii_digit, is_ascii_hexdigit}
use Rattle.std.specs.List.{list_all}
use Rattle.std.specs.Str.Parse.{digits_value}
use Rattle.html5ever_interface.specs.Collected.{kept_text}
use Rattle.html5ever_interface.specs.Sink.{Message, on_line}
use Rattle.html5ever_interface.specs.Token.{Told}
use Rattle.html5ever_interface.specs.Token.Told.{Text, Error, End}
use Rattle.html5reading.specs.Characters.{number_sign, ampersand, semicolon}
use Rattle.html5reading.specs.ErrorText.{where_true}
use Rattle.html5reading.specs.NormalisedText.{normalised, line_after}
use Rattle.html5reading.specs.Reference.{is_x, is_ended, is_invalid_number, invalid_number, character_of_number, second_of}
use Rattle.html5reading.specs.Start.{Input, Start, Mode}
use Rattle.html5reading.specs.Start.Mode.{Data, RawText}
use Rattle.html5reading.specs.Start.Open.{Between}
use Rattle.html5reading.specs.Start.Raw.{Rcdata}
use Rattle.markup5ever.specs.NamedReferences.{NamedReference, characters_of_name}

-- ---- how a reference is written

-- "Character reference state": a reference as source text
pub data WrittenReference : Type 0 where
  -- an ampersand alone, which stands for itself
  Ampersand : WrittenReference
  -- a number: the `x` or `X` of base 16, the digits, and whether a semicolon ends it
  Number : Option ℕ → List ℕ → Bool → WrittenReference
  -- a name of the table, which may end with a semicolon
  Named : NamedReference → WrittenReference

-- ---- its text

-- "Numeric character reference state": the `x` or `X` of base 16
abbrev pub x_text : Option ℕ → List ℕ
x_text None = []
x_text (Some x) = x ∷ []

-- the semicolon, if there is one
abbrev pub end_text : Bool → List ℕ
end_text ends = if ends then semicolon ∷ [] else []

-- the text of a reference
unfoldable pub written : WrittenReference → List ℕ
written Ampersand = ampersand ∷ []
written (Number x digits ends) = (ampersand ∷ number_sign ∷ x_text x ++ digits) ++ end_text ends
written (Named entry) = ampersand ∷ entry.name

-- ---- which references there are

-- "Numeric character reference state": whether c can stand before digits of base 16
abbrev pub is_base : Option ℕ → Bool
is_base None = true
is_base (Some x) = is_x x

-- "Hexadecimal character reference state" and "Decimal character reference state": whether d is a digit of base 10, or of base 16
-- after an `x`
abbrev pub is_base_digit : Option ℕ → ℕ → Bool
is_base_digit None d = is_ascii_digit d
is_base_digit (Some x) d = is_ascii_hexdigit d

-- whether this is a reference, written out. A number has a digit, and the table has the name with these characters.
abbrev pub IsWritten : List NamedReference → WrittenReference → Type 0
IsWritten references Ampersand = Unit {0}
IsWritten references (Number x digits ends) = is_base x && (not (nat_eq (length digits) 0) && list_all (is_base_digit x) digits) ≡ true
IsWritten references (Named entry) = characters_of_name references entry.name ≡ Some (entry.first, entry.second)

-- ---- what it tells

-- "Hexadecimal character reference state" and "Decimal character reference state": the number that the digits write, without a
-- bound
abbrev pub value_of : Option ℕ → List ℕ → ℕ
value_of None digits = digits_value 10 digits
value_of (Some x) digits = digits_value 16 digits

-- "Numeric character reference end state" and "Named character reference state": what is wrong with it
unfoldable pub reference_errors : Bool → WrittenReference → List Told
reference_errors exact Ampersand = []
reference_errors exact (Number x digits ends) =
    where_true (not ends) (Error (codes "EOF in numeric character reference"))
    ++ where_true (is_invalid_number (value_of x digits)) (Error (invalid_number exact (value_of x digits)))
reference_errors exact (Named entry) = where_true (not (is_ended entry.name)) (Error (codes "Character reference does not end with semicolon"))

-- "Numeric character reference end state" and "Named character reference state": the characters that it stands for
unfoldable pub reference_characters : WrittenReference → List ℕ
reference_characters Ampersand = ampersand ∷ []
reference_characters (Number x digits ends) = character_of_number (value_of x digits) ∷ []
reference_characters (Named entry) = entry.first ∷ second_of entry.second

-- all that a text tells that is one reference
unfoldable pub reference_tokens : Bool → WrittenReference → List Told
reference_tokens exact reference =
    (reference_errors exact reference ++ map (λ c. Text (encode_utf8 c)) (reference_characters reference)) ++ End ∷ []

-- the messages that a collector keeps of it. Its characters are one text.
unfoldable pub reference_messages : Bool → Input → WrittenReference → List Message
reference_messages exact input reference =
    let line : ℕ = line_after input (written reference) in
    on_line line (reference_errors exact reference) ++ kept_text (encode_utf8_all (reference_characters reference)) ∷ on_line line (End ∷ [])

-- ---- where it is read

-- the modes with references
abbrev pub has_references : Mode → Bool
has_references Data = true
has_references (RawText Rcdata name) = true
has_references mode = false

-- the text X, read from the start K by this table, in a mode with references, is this reference, written out
pub record IsReference (references : List NamedReference) (K : Start) (X : List ℕ) (reference : WrittenReference) : Type 0 where
  pub mode : Mode
  pub starts : K.opened ≡ Between mode
  pub has : has_references mode ≡ true
  pub is_reference : IsWritten references reference
  pub text : normalised K.input X ≡ written reference
