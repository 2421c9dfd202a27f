-- "ISO-2022-JP decoder". Its output state is a character set. Its state is the one of that name, unless something is begun:
-- the trail byte state has a lead, the escape start state has an escape, and the escape state has one of two bytes after it.
use Rattle.std.specs.Prelude.{ℕ, ◌+◌, ◌-◌, ◌*◌, ◌==◌, Bool, true, false, ◌||◌, nat_lt, List, [], ◌∷◌, ◌++◌, Option, Some, None, is_none, if◌then◌else◌, not, ◌&&◌}
use Rattle.std.specs.Int.{is_in_range}
use Rattle.html5encodings.specs.declared.iso_2022_jp.Begun.{Begun}
use Rattle.html5encodings.specs.declared.iso_2022_jp.Begun.TheVariants.{Nothing, Lead, Escape, EscapeDollar, EscapeParenthesis}
use Rattle.html5encodings.specs.declared.iso_2022_jp.Charset.{Charset}
use Rattle.html5encodings.specs.declared.iso_2022_jp.Charset.TheVariants.{Ascii, Roman, Katakana, Jis0208}
use Rattle.html5encodings.specs.declared.iso_2022_jp.Iso2022Jp.{Iso2022Jp}
use Rattle.html5encodings.specs.IndexJis0208.{index_jis0208}
use Rattle.html5encodings.specs.Steps.{code_point_at, code_point_or_error, error_if}

-- what a byte gives, and where it leaves the decoder
abbrev pub Handled : Type 0
Handled = List ℕ × Iso2022Jp

-- the output state with nothing begun, where something came since an escape sequence
abbrev pub standing : Charset → Iso2022Jp
standing charset = record { charset = charset; begun = Nothing; escaped = false }

-- the code point of a byte in the ASCII state, in the Roman and in the katakana state
abbrev pub ascii_code_point : ℕ → Option ℕ
ascii_code_point byte = if byte == 0x0E || byte == 0x0F then None else (if nat_lt byte 0x80 then Some byte else None)

abbrev pub roman_code_point : ℕ → Option ℕ
roman_code_point byte = if byte == 0x5C then Some 0xA5 else (if byte == 0x7E then Some 0x203E else (ascii_code_point byte))

abbrev pub katakana_code_point : ℕ → Option ℕ
katakana_code_point byte = if is_in_range 0x21 0x5F byte then Some (0xFF61 + (byte - 0x21)) else None

-- a byte that is not an escape, in the ASCII, Roman, katakana and lead byte states
abbrev pub shown : Charset → ℕ → Handled
shown Ascii byte = (code_point_or_error (ascii_code_point byte), standing Ascii)
shown Roman byte = (code_point_or_error (roman_code_point byte), standing Roman)
shown Katakana byte = (code_point_or_error (katakana_code_point byte), standing Katakana)
shown Jis0208 byte = if is_in_range 0x21 0x7E byte then ([], record { charset = Jis0208; begun = Lead byte; escaped = false })
    else (0xFFFD ∷ [], standing Jis0208)

-- a byte in these states; it says whether nothing came since an escape sequence
abbrev pub alone : Charset → Bool → ℕ → Handled
alone charset escaped byte = if byte == 0x1B then ([], record { charset = charset; begun = Escape; escaped = escaped }) else (shown charset byte)

-- the code point of a lead and a byte
abbrev pub pair_code_point : ℕ → ℕ → Option ℕ
pair_code_point lead byte = code_point_at index_jis0208 ((lead - 0x21) * 94 + (byte - 0x21))

-- a byte in the trail byte state
abbrev pub after_lead : Charset → ℕ → ℕ → Handled
after_lead charset lead byte = if byte == 0x1B then (0xFFFD ∷ [], record { charset = charset; begun = Escape; escaped = false })
    else (if is_in_range 0x21 0x7E byte then (code_point_or_error (pair_code_point lead byte), standing charset)
    else (0xFFFD ∷ [], standing charset))

-- a byte in the escape start state: one that begins no escape sequence is an error, and is restored
abbrev pub after_escape : Charset → Bool → ℕ → Handled
after_escape charset escaped byte =
    if byte == 0x24 then ([], record { charset = charset; begun = EscapeDollar; escaped = escaped })
    else (if byte == 0x28 then ([], record { charset = charset; begun = EscapeParenthesis; escaped = escaped })
    else (0xFFFD ∷ (alone charset false byte).0, (alone charset false byte).1))

-- the end of an escape sequence: two of them with nothing between are an error
abbrev pub escaped_to : Charset → Bool → Handled
escaped_to charset escaped = (error_if escaped, record { charset = charset; begun = Nothing; escaped = true })

-- two bytes, of which the first is no escape, and leaves nothing
abbrev pub in_a_row : Charset → ℕ → ℕ → Handled
in_a_row charset first second = ((shown charset first).0 ++ (alone charset false second).0, (alone charset false second).1)

-- two bytes, of which the first is no escape; in the lead byte state it is a lead
abbrev pub both : Charset → ℕ → ℕ → Handled
both Jis0208 first second = after_lead Jis0208 first second
both Ascii first second = in_a_row Ascii first second
both Roman first second = in_a_row Roman first second
both Katakana first second = in_a_row Katakana first second

-- an error, after which both bytes after the escape are restored
abbrev pub not_escaped : Charset → ℕ → ℕ → Handled
not_escaped charset first second = (0xFFFD ∷ (both charset first second).0, (both charset first second).1)

-- a byte in the escape state, after 0x24 and after 0x28
abbrev pub after_dollar : Charset → Bool → ℕ → Handled
after_dollar charset escaped byte = if byte == 0x40 || byte == 0x42 then (escaped_to Jis0208 escaped) else (not_escaped charset 0x24 byte)

abbrev pub after_parenthesis : Charset → Bool → ℕ → Handled
after_parenthesis charset escaped byte = if byte == 0x42 then (escaped_to Ascii escaped)
    else (if byte == 0x4A then (escaped_to Roman escaped)
    else (if byte == 0x49 then (escaped_to Katakana escaped)
    else (not_escaped charset 0x28 byte)))

abbrev pub handled_after : Begun → Charset → Bool → ℕ → Handled
handled_after Nothing charset escaped byte = alone charset escaped byte
handled_after (Lead lead) charset escaped byte = after_lead charset lead byte
handled_after Escape charset escaped byte = after_escape charset escaped byte
handled_after EscapeDollar charset escaped byte = after_dollar charset escaped byte
handled_after EscapeParenthesis charset escaped byte = after_parenthesis charset escaped byte

abbrev pub handled : Iso2022Jp → ℕ → Handled
handled state byte = handled_after state.begun state.charset state.escaped byte

-- a byte of ASCII that neither shifts nor escapes
abbrev pub is_plain : ℕ → Bool
is_plain byte = nat_lt byte 0x80 && not (byte == 0x0E || byte == 0x0F || byte == 0x1B)

-- where such bytes stand for themselves, and leave the decoder there: in the ASCII state, where something came since an
-- escape sequence
abbrev pub reads_plain : Charset → Begun → Bool → Bool
reads_plain Ascii Nothing escaped = not escaped
reads_plain Ascii (Lead lead) escaped = false
reads_plain Ascii Escape escaped = false
reads_plain Ascii EscapeDollar escaped = false
reads_plain Ascii EscapeParenthesis escaped = false
reads_plain Roman begun escaped = false
reads_plain Katakana begun escaped = false
reads_plain Jis0208 begun escaped = false

-- the end, where a byte after an escape is restored: in the lead byte state it is a lead with nothing after it
abbrev pub restored_at_end : Charset → ℕ → List ℕ
restored_at_end Jis0208 byte = 0xFFFD ∷ []
restored_at_end Ascii byte = byte ∷ []
restored_at_end Roman byte = byte ∷ []
restored_at_end Katakana byte = (0xFF61 + (byte - 0x21)) ∷ []

abbrev pub at_end_after : Begun → Charset → List ℕ
at_end_after Nothing charset = []
at_end_after (Lead lead) charset = 0xFFFD ∷ []
at_end_after Escape charset = 0xFFFD ∷ []
at_end_after EscapeDollar charset = 0xFFFD ∷ restored_at_end charset 0x24
at_end_after EscapeParenthesis charset = 0xFFFD ∷ restored_at_end charset 0x28

abbrev pub at_end : Iso2022Jp → List ℕ
at_end state = at_end_after state.begun state.charset

-- whether a byte that is not an escape is an error, in the ASCII, Roman, katakana and lead byte states
abbrev pub is_shown_error : Charset → ℕ → Bool
is_shown_error Ascii byte = is_none (ascii_code_point byte)
is_shown_error Roman byte = is_none (roman_code_point byte)
is_shown_error Katakana byte = is_none (katakana_code_point byte)
is_shown_error Jis0208 byte = not (is_in_range 0x21 0x7E byte)

-- whether a byte is an error
abbrev pub is_error_after : Begun → Charset → Bool → ℕ → Bool
is_error_after Nothing charset escaped byte = if byte == 0x1B then false else (is_shown_error charset byte)
is_error_after (Lead lead) charset escaped byte = if is_in_range 0x21 0x7E byte then (is_none (pair_code_point lead byte)) else true
is_error_after Escape charset escaped byte = not (byte == 0x24 || byte == 0x28)
is_error_after EscapeDollar charset escaped byte = if byte == 0x40 || byte == 0x42 then escaped else true
is_error_after EscapeParenthesis charset escaped byte = if byte == 0x42 || byte == 0x4A || byte == 0x49 then escaped else true

abbrev pub returns_error : Iso2022Jp → ℕ → Bool
returns_error state byte = is_error_after state.begun state.charset state.escaped byte

-- whether nothing is begun
abbrev pub is_nothing : Begun → Bool
is_nothing Nothing = true
is_nothing (Lead lead) = false
is_nothing Escape = false
is_nothing EscapeDollar = false
is_nothing EscapeParenthesis = false
