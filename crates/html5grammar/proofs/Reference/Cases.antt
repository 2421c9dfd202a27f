-- Worked cases of one reference as source text.
use Rattle.std.specs.Prelude.{◌≡◌, ℕ, Bool, true, false, List, [], ◌∷◌, codes, refl, map, None, Some}
use Rattle.std.specs.Fmt.{digits}
use lib.Utf8.{encode}
use Rattle.html5ever_interface.specs.Sink.{Message}
use Rattle.html5ever_interface.specs.Token.{Told}
use Rattle.html5ever_interface.specs.Token.Told.{Text, Error, End}
use Rattle.html5reading.specs.Characters.{is_bad_character, is_no_character}
use Rattle.html5reading.specs.NormalisedText.{normalised, with_line_feeds, without_dropped_first, line_after}
use Rattle.html5grammar.specs.Reference.{WrittenReference, written, reference_errors, reference_characters, reference_messages, IsReference}
use Rattle.html5grammar.specs.Reference.WrittenReference.{Ampersand, Number, Named}
use Rattle.html5reading.specs.Reference.{character_of_number, is_invalid_number, invalid_number, six_digits, is_ended}
use Rattle.html5reading.specs.Start.{Input, Start, Mode}
use Rattle.html5reading.specs.Start.Mode.{RawText}
use Rattle.html5reading.specs.Start.Open.{Between}
use Rattle.html5reading.specs.Start.Raw.{Rcdata}
use Rattle.markup5ever.specs.C1.{character_of_c1}

abbrev input : Input
input = record { line = 7; after_carriage_return = true; drops_byte_order_mark = false }

-- a reference's text, and what a collector keeps of it: a text is kept on no line
record Case (exact : Bool) (reference : WrittenReference) (text : List ℕ) (told : List Told) (lines : List ℕ) : Type 0 where
  written : written reference ≡ text
  tokens : map (λ (m : Message). m.token) (reference_messages exact input reference) ≡ told
  on_lines : map (λ (m : Message). m.line) (reference_messages exact input reference) ≡ lines

alone : Case false Ampersand (codes "&") (Text (codes "&") ∷ End ∷ []) (0 ∷ 7 ∷ [])
unfolding written reference_messages reference_errors reference_characters line_after encode
alone = record { written = refl; tokens = refl; on_lines = refl }

euro : Case false (Number (Some 0x78) (codes "80") true) (codes "&#x80;") (Error (codes "Invalid numeric character reference") ∷ Text (0xE2 ∷ 0x82 ∷ 0xAC ∷ []) ∷ End ∷ []) (7 ∷ 0 ∷ 7 ∷ [])
unfolding written reference_messages reference_errors reference_characters line_after encode character_of_number is_invalid_number invalid_number is_bad_character is_no_character character_of_c1
euro = record { written = refl; tokens = refl; on_lines = refl }

surrogate : Case true (Number None (codes "55296") false) (codes "&#55296") (Error (codes "EOF in numeric character reference") ∷ Error (codes "Invalid numeric character reference value 0x00D800") ∷ Text (0xEF ∷ 0xBF ∷ 0xBD ∷ []) ∷ End ∷ []) (7 ∷ 7 ∷ 0 ∷ 7 ∷ [])
unfolding written reference_messages reference_errors reference_characters line_after encode character_of_number is_invalid_number invalid_number is_bad_character is_no_character character_of_c1 six_digits digits
surrogate = record { written = refl; tokens = refl; on_lines = refl }

two : Case false (Named (record { name = codes "nGt;"; first = 0x226B; second = Some 0x20D2 })) (codes "&nGt;") (Text (0xE2 ∷ 0x89 ∷ 0xAB ∷ 0xE2 ∷ 0x83 ∷ 0x92 ∷ []) ∷ End ∷ []) (0 ∷ 7 ∷ [])
unfolding written reference_messages reference_errors reference_characters line_after encode is_ended
two = record { written = refl; tokens = refl; on_lines = refl }

unended : Case false (Named (record { name = codes "not"; first = 0xAC; second = None })) (codes "&not") (Error (codes "Character reference does not end with semicolon") ∷ Text (0xC2 ∷ 0xAC ∷ []) ∷ End ∷ []) (7 ∷ 0 ∷ 7 ∷ [])
unfolding written reference_messages reference_errors reference_characters line_after encode is_ended
unended = record { written = refl; tokens = refl; on_lines = refl }

-- in RCDATA, as the text of a `title` is read
abbrev title : Mode
title = RawText Rcdata (codes "title")

abbrev within_title : Start
within_title = record { opened = Between title; last_start_tag = codes "title"; input = input }

euro-in_title : IsReference [] within_title (codes "&#x80;") (Number (Some 0x78) (codes "80") true)
unfolding normalised with_line_feeds without_dropped_first written
euro-in_title = record { mode = title; starts = refl; has = refl; is_reference = refl; text = refl }
