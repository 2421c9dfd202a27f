-- Worked cases of one CDATA section.
use Rattle.std.specs.Prelude.{◌≡◌, ℕ, Bool, true, false, List, [], ◌∷◌, ◌++◌, codes, refl}
use Rattle.html5ever_interface.specs.Collected.{kept_text, none_collected, collected_step, with_message, with_text, from_first_with_text}
use Rattle.html5ever_interface.specs.Sink.{Message, on_line, stepped}
use Rattle.html5ever_interface.specs.Token.Told.{Null, Error, End}
use Rattle.html5reading.specs.Characters.{is_bad_character}
use Rattle.html5reading.specs.ErrorText.{bad_character, saw_end}
use Rattle.html5reading.specs.NormalisedText.{normalised, without_dropped_first, with_line_feeds, line_after}
use Rattle.html5grammar.specs.Cdata.{WrittenCdata, pieces_text, written, is_piece, is_written, spell_pieces, cdata_messages}
use Rattle.html5grammar.specs.Comment.{occurs}
use Rattle.html5grammar.specs.Spelled.{spelled_messages}
use Rattle.html5reading.specs.Start.{Input}
use lib.Utf8.{encode}

abbrev input : Input
input = record { line = 1; after_carriage_return = false; drops_byte_order_mark = true }

abbrev one : Bool → List (List ℕ) → List ℕ → Bool → WrittenCdata
one has_opening pieces last is_ended = record { has_opening = has_opening; pieces = pieces; last = last; is_ended = is_ended }

-- a text, how it is written, and the messages that a collector keeps of it, adjacent texts joined
record Case (exact : Bool) (cdata : WrittenCdata) (X : List ℕ) (M : List Message) : Type 0 where
  text : normalised input X ≡ written cdata
  is_cdata : is_written true cdata ≡ true
  messages : (stepped collected_step (none_collected true) (cdata_messages exact input cdata)).messages ≡ M

null_tells_what_is_held : Case false (one true ((codes "a") ∷ []) (codes "b") true) (0x3C ∷ 0x21 ∷ 0x5B ∷ 0x43 ∷ 0x44 ∷ 0x41 ∷ 0x54 ∷ 0x41 ∷ 0x5B ∷ 0x61 ∷ 0x0 ∷ 0x62 ∷ 0x5D ∷ 0x5D ∷ 0x3E ∷ [])
    (kept_text (codes "a") ∷ (on_line 1 (Null ∷ []) ++ (kept_text (codes "b") ∷ on_line 1 (End ∷ []))))
unfolding written pieces_text normalised without_dropped_first with_line_feeds line_after occurs is_piece is_written spell_pieces cdata_messages spelled_messages stepped with_message with_text from_first_with_text is_bad_character encode saw_end bad_character
null_tells_what_is_held = record { text = refl; is_cdata = refl; messages = refl }

nothing_before_nulls : Case false (one true ([] ∷ [] ∷ []) [] true) (0x3C ∷ 0x21 ∷ 0x5B ∷ 0x43 ∷ 0x44 ∷ 0x41 ∷ 0x54 ∷ 0x41 ∷ 0x5B ∷ 0x0 ∷ 0x0 ∷ 0x5D ∷ 0x5D ∷ 0x3E ∷ [])
    (on_line 1 (Null ∷ Null ∷ End ∷ []))
unfolding written pieces_text normalised without_dropped_first with_line_feeds line_after occurs is_piece is_written spell_pieces cdata_messages spelled_messages stepped with_message with_text from_first_with_text is_bad_character encode saw_end bad_character
nothing_before_nulls = record { text = refl; is_cdata = refl; messages = refl }

brackets_before_a_null : Case false (one true ((codes "]]") ∷ []) (codes ">") true) (0x3C ∷ 0x21 ∷ 0x5B ∷ 0x43 ∷ 0x44 ∷ 0x41 ∷ 0x54 ∷ 0x41 ∷ 0x5B ∷ 0x5D ∷ 0x5D ∷ 0x0 ∷ 0x3E ∷ 0x5D ∷ 0x5D ∷ 0x3E ∷ [])
    (kept_text (codes "]]") ∷ (on_line 1 (Null ∷ []) ++ (kept_text (codes ">") ∷ on_line 1 (End ∷ []))))
unfolding written pieces_text normalised without_dropped_first with_line_feeds line_after occurs is_piece is_written spell_pieces cdata_messages spelled_messages stepped with_message with_text from_first_with_text is_bad_character encode saw_end bad_character
brackets_before_a_null = record { text = refl; is_cdata = refl; messages = refl }

third_bracket : Case false (one true [] (codes "a]") true) (codes "<![CDATA[a]]]>")
    (kept_text (codes "a]") ∷ on_line 1 (End ∷ []))
unfolding written pieces_text normalised without_dropped_first with_line_feeds line_after occurs is_piece is_written spell_pieces cdata_messages spelled_messages stepped with_message with_text from_first_with_text is_bad_character encode saw_end bad_character
third_bracket = record { text = refl; is_cdata = refl; messages = refl }

empty : Case false (one true [] [] true) (codes "<![CDATA[]]>")
    (on_line 1 (End ∷ []))
unfolding written pieces_text normalised without_dropped_first with_line_feeds line_after occurs is_piece is_written spell_pieces cdata_messages spelled_messages stepped with_message with_text from_first_with_text is_bad_character encode saw_end bad_character
empty = record { text = refl; is_cdata = refl; messages = refl }

no_end : Case false (one true [] (codes "a]") false) (codes "<![CDATA[a]")
    (kept_text (codes "a]") ∷ on_line 1 (Error (codes "Saw EOF in state CdataSection") ∷ End ∷ []))
unfolding written pieces_text normalised without_dropped_first with_line_feeds line_after occurs is_piece is_written spell_pieces cdata_messages spelled_messages stepped with_message with_text from_first_with_text is_bad_character encode saw_end bad_character
no_end = record { text = refl; is_cdata = refl; messages = refl }

nothing_in_it : Case false (one true [] [] false) (codes "<![CDATA[")
    (on_line 1 (Error (codes "Saw EOF in state CdataSection") ∷ End ∷ []))
unfolding written pieces_text normalised without_dropped_first with_line_feeds line_after occurs is_piece is_written spell_pieces cdata_messages spelled_messages stepped with_message with_text from_first_with_text is_bad_character encode saw_end bad_character
nothing_in_it = record { text = refl; is_cdata = refl; messages = refl }

from_inside : Case false (one false ((codes "x") ∷ []) (codes "<y>") true) (0x78 ∷ 0x0 ∷ 0x3C ∷ 0x79 ∷ 0x3E ∷ 0x5D ∷ 0x5D ∷ 0x3E ∷ [])
    (kept_text (codes "x") ∷ (on_line 1 (Null ∷ []) ++ (kept_text (codes "<y>") ∷ on_line 1 (End ∷ []))))
unfolding written pieces_text normalised without_dropped_first with_line_feeds line_after occurs is_piece is_written spell_pieces cdata_messages spelled_messages stepped with_message with_text from_first_with_text is_bad_character encode saw_end bad_character
from_inside = record { text = refl; is_cdata = refl; messages = refl }

from_inside_nothing : Case false (one false [] [] false) []
    (on_line 1 (Error (codes "Saw EOF in state CdataSection") ∷ End ∷ []))
unfolding written pieces_text normalised without_dropped_first with_line_feeds line_after occurs is_piece is_written spell_pieces cdata_messages spelled_messages stepped with_message with_text from_first_with_text is_bad_character encode saw_end bad_character
from_inside_nothing = record { text = refl; is_cdata = refl; messages = refl }

bad_characters_first : Case true (one true ((0x1 ∷ 0x61 ∷ []) ∷ []) (0x62 ∷ 0x2 ∷ []) true) (0x3C ∷ 0x21 ∷ 0x5B ∷ 0x43 ∷ 0x44 ∷ 0x41 ∷ 0x54 ∷ 0x41 ∷ 0x5B ∷ 0x1 ∷ 0x61 ∷ 0x0 ∷ 0x62 ∷ 0x2 ∷ 0x5D ∷ 0x5D ∷ 0x3E ∷ [])
    (on_line 1 (Error (codes "Bad character " ++ 0x1 ∷ []) ∷ []) ++ (kept_text (0x1 ∷ 0x61 ∷ []) ∷ (on_line 1 (Null ∷ Error (codes "Bad character " ++ 0x2 ∷ []) ∷ []) ++ (kept_text (0x62 ∷ 0x2 ∷ []) ∷ on_line 1 (End ∷ [])))))
unfolding written pieces_text normalised without_dropped_first with_line_feeds line_after occurs is_piece is_written spell_pieces cdata_messages spelled_messages stepped with_message with_text from_first_with_text is_bad_character encode saw_end bad_character
bad_characters_first = record { text = refl; is_cdata = refl; messages = refl }

lines : Case false (one true ((0x61 ∷ 0xA ∷ []) ∷ []) (0xA ∷ []) true) (0x3C ∷ 0x21 ∷ 0x5B ∷ 0x43 ∷ 0x44 ∷ 0x41 ∷ 0x54 ∷ 0x41 ∷ 0x5B ∷ 0x61 ∷ 0xD ∷ 0xA ∷ 0x0 ∷ 0xD ∷ 0x5D ∷ 0x5D ∷ 0x3E ∷ [])
    (kept_text (0x61 ∷ 0xA ∷ []) ∷ (on_line 2 (Null ∷ []) ++ (kept_text (0xA ∷ []) ∷ on_line 3 (End ∷ []))))
unfolding written pieces_text normalised without_dropped_first with_line_feeds line_after occurs is_piece is_written spell_pieces cdata_messages spelled_messages stepped with_message with_text from_first_with_text is_bad_character encode saw_end bad_character
lines = record { text = refl; is_cdata = refl; messages = refl }

-- an end or a NUL stands within, or no section can begin there

abbrev NotWritten : Bool → WrittenCdata → Type 0
NotWritten foreign cdata = is_written foreign cdata ≡ false

ends_within : NotWritten true (one true [] (codes "a]]>b") true)
unfolding is_written is_piece occurs
ends_within = refl

ends_in_a_piece : NotWritten true (one true ((codes "]]>") ∷ []) (codes "b") true)
unfolding is_written is_piece occurs
ends_in_a_piece = refl

null_within : NotWritten true (one true [] (0x61 ∷ 0x0 ∷ []) true)
unfolding is_written is_piece occurs
null_within = refl

not_in_foreign_content : NotWritten false (one true [] (codes "a") true)
unfolding is_written is_piece occurs
not_in_foreign_content = refl
