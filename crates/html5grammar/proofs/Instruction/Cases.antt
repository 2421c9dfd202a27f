-- Worked cases of one processing instruction.
use Rattle.std.specs.Prelude.{◌≡◌, ℕ, Bool, true, false, List, [], ◌∷◌, ◌++◌, codes, refl}
use Rattle.html5ever_interface.specs.Sink.{Message, on_line}
use Rattle.html5ever_interface.specs.Token.Told.{Error, Instruction, End}
use Rattle.html5reading.specs.Characters.{is_bad_character, shown, value_bytes}
use Rattle.html5reading.specs.ErrorText.{bad_character, saw, saw_end}
use Rattle.html5reading.specs.Instruction.{in_instruction}
use Rattle.html5reading.specs.NormalisedText.{normalised, without_dropped_first, with_line_feeds, line_after}
use Rattle.html5grammar.specs.Instruction.{WrittenInstruction, written, is_written, messages_of, instruction_messages}
use Rattle.html5grammar.specs.Spelled.{spelled_messages}
use Rattle.html5reading.specs.Start.{Input}
use lib.Utf8.{encode}

abbrev input : Input
input = record { line = 1; after_carriage_return = false; drops_byte_order_mark = true }

-- with its `>`, and without
abbrev ended : List ℕ → WrittenInstruction
ended content = record { content = content; is_ended = true }

abbrev cut_off : List ℕ → WrittenInstruction
cut_off content = record { content = content; is_ended = false }

-- a text, how it is written, and its messages
record Case (exact : Bool) (instruction : WrittenInstruction) (X : List ℕ) (M : List Message) : Type 0 where
  text : normalised input X ≡ written instruction
  is_instruction : is_written instruction ≡ true
  messages : instruction_messages exact input instruction ≡ M

content : Case false (ended (codes "xml version='1.0'")) (codes "<?xml version='1.0'>")
    (on_line 1 (Instruction (codes "xml version='1.0'") ∷ End ∷ []))
unfolding normalised without_dropped_first with_line_feeds line_after written is_written in_instruction messages_of instruction_messages spelled_messages is_bad_character bad_character saw saw_end value_bytes shown encode
content = record { text = refl; is_instruction = refl; messages = refl }

question_mark_at_the_end : Case false (ended (codes "x?")) (codes "<?x?>")
    (on_line 1 (Instruction (codes "x?") ∷ End ∷ []))
unfolding normalised without_dropped_first with_line_feeds line_after written is_written in_instruction messages_of instruction_messages spelled_messages is_bad_character bad_character saw saw_end value_bytes shown encode
question_mark_at_the_end = record { text = refl; is_instruction = refl; messages = refl }

nothing : Case false (ended []) (codes "<?>")
    (on_line 1 (Instruction [] ∷ End ∷ []))
unfolding normalised without_dropped_first with_line_feeds line_after written is_written in_instruction messages_of instruction_messages spelled_messages is_bad_character bad_character saw saw_end value_bytes shown encode
nothing = record { text = refl; is_instruction = refl; messages = refl }

null : Case false (ended (codes "\0")) (codes "<?\0>")
    (on_line 1 (Error (codes "Saw \0 in state ProcessingInstruction") ∷ Instruction (239 ∷ 191 ∷ 189 ∷ []) ∷ End ∷ []))
unfolding normalised without_dropped_first with_line_feeds line_after written is_written in_instruction messages_of instruction_messages spelled_messages is_bad_character bad_character saw saw_end value_bytes shown encode
null = record { text = refl; is_instruction = refl; messages = refl }

lines_and_bad_characters : Case true (ended (codes "a\n\u{1}b\0")) (codes "<?a\r\n\u{1}b\0>")
    (on_line 2 (Error (codes "Bad character \u{1}") ∷ Error (codes "Bad character") ∷ Instruction (codes "a\n\u{1}b" ++ (239 ∷ 191 ∷ 189 ∷ [])) ∷ End ∷ []))
unfolding normalised without_dropped_first with_line_feeds line_after written is_written in_instruction messages_of instruction_messages spelled_messages is_bad_character bad_character saw saw_end value_bytes shown encode
lines_and_bad_characters = record { text = refl; is_instruction = refl; messages = refl }

no_end : Case false (cut_off (codes "x\n")) (codes "<?x\n")
    (on_line 2 (Error (codes "Saw EOF in state ProcessingInstruction") ∷ Instruction (codes "x\n") ∷ End ∷ []))
unfolding normalised without_dropped_first with_line_feeds line_after written is_written in_instruction messages_of instruction_messages spelled_messages is_bad_character bad_character saw saw_end value_bytes shown encode
no_end = record { text = refl; is_instruction = refl; messages = refl }

no_end_and_nothing : Case true (cut_off []) (codes "<?")
    (on_line 1 (Error (codes "Unexpected EOF") ∷ Instruction [] ∷ End ∷ []))
unfolding normalised without_dropped_first with_line_feeds line_after written is_written in_instruction messages_of instruction_messages spelled_messages is_bad_character bad_character saw saw_end value_bytes shown encode
no_end_and_nothing = record { text = refl; is_instruction = refl; messages = refl }

null_and_no_end : Case false (cut_off (codes "\0")) (codes "<?\0")
    (on_line 1 (Error (codes "Saw \0 in state ProcessingInstruction") ∷ Error (codes "Saw EOF in state ProcessingInstruction") ∷ Instruction (239 ∷ 191 ∷ 189 ∷ []) ∷ End ∷ []))
unfolding normalised without_dropped_first with_line_feeds line_after written is_written in_instruction messages_of instruction_messages spelled_messages is_bad_character bad_character saw saw_end value_bytes shown encode
null_and_no_end = record { text = refl; is_instruction = refl; messages = refl }

-- the first `>` ends it

ends_within : is_written (ended (codes "x>y")) ≡ false
unfolding is_written in_instruction
ends_within = refl
