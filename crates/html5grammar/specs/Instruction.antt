-- One processing instruction as source text, and what it tells. The standard has a bogus comment in its place.
use Rattle.std.specs.Prelude.{◌≡◌, ℕ, Bool, true, List, [], ◌∷◌, ◌++◌, flat_map, codes, if◌then◌else◌}
use Rattle.std.specs.List.{list_all}
use Rattle.html5ever_interface.specs.Sink.{Message, on_line}
use Rattle.html5ever_interface.specs.Token.{Told}
use Rattle.html5ever_interface.specs.Token.Told.{Instruction, End}
use Rattle.html5ever_interface.specs.declared.states.State.TheVariants as state
use Rattle.html5reading.specs.Characters.{greater_than, value_bytes}
use Rattle.html5reading.specs.ErrorText.{end_error_in}
use Rattle.html5reading.specs.Instruction.{in_instruction}
use Rattle.html5reading.specs.NormalisedText.{normalised, line_after}
use Rattle.html5grammar.specs.Spelled.{Spelled, spell, spell_silent, spelled_messages}
use Rattle.html5reading.specs.Start.{Input, Start, Open}
use Rattle.html5reading.specs.Start.Mode.{Data}
use Rattle.html5reading.specs.Start.Open.{Between, InInstruction}
use Rattle.html5reading.specs.Tag.{null_error}

-- ---- how an instruction is written

-- an instruction as source text
pub record WrittenInstruction : Type 0 where
  -- the text after `<?`
  pub content : List ℕ
  -- whether it ends with `>`
  pub is_ended : Bool

-- ---- its text

-- the `>`, if there is one
abbrev pub end_text : Bool → List ℕ
end_text is_ended = if is_ended then greater_than ∷ [] else []

-- the text of an instruction
unfoldable pub written : WrittenInstruction → List ℕ
written instruction = codes "<?" ++ (instruction.content ++ end_text instruction.is_ended)

-- whether this is an instruction, written out. No `>` stands in its content, since the first one ends it.
unfoldable pub is_written : WrittenInstruction → Bool
is_written instruction = list_all in_instruction instruction.content

-- ---- what it tells

-- its content in bytes, a NUL as U+FFFD
abbrev pub told_content : List ℕ → Told
told_content content = Instruction (flat_map value_bytes content)

-- the `>`
abbrev pub spell_end : Bool → List ℕ → List Spelled
spell_end is_ended content = if is_ended then record { character = greater_than; told = told_content content ∷ [] } ∷ [] else []

-- the characters of an instruction
abbrev pub spell_instruction : Bool → WrittenInstruction → List Spelled
spell_instruction exact instruction =
    spell_silent (codes "<?")
    ++ (spell (null_error exact state.ProcessingInstruction) instruction.content ++ spell_end instruction.is_ended instruction.content)

-- the end of input tells an instruction that has no `>`, and that is an error
abbrev pub told_at_end : Bool → Bool → List ℕ → List Told
told_at_end exact is_ended content =
    if is_ended then End ∷ [] else end_error_in exact state.ProcessingInstruction ∷ told_content content ∷ End ∷ []

-- the messages of an instruction, without those of the end
unfoldable pub messages_of : Bool → Input → WrittenInstruction → List Message
messages_of exact input instruction = spelled_messages exact input [] (spell_instruction exact instruction)

-- the messages of a text that is one instruction
unfoldable pub instruction_messages : Bool → Input → WrittenInstruction → List Message
instruction_messages exact input instruction =
    messages_of exact input instruction
    ++ on_line (line_after input (written instruction)) (told_at_end exact instruction.is_ended instruction.content)

-- what is open after it
abbrev pub open_after_instruction : WrittenInstruction → Open
open_after_instruction instruction =
    if instruction.is_ended then Between Data else InInstruction (flat_map value_bytes instruction.content)

-- the text X, read from the start K, is this instruction, written out
pub record IsInstruction (K : Start) (X : List ℕ) (instruction : WrittenInstruction) : Type 0 where
  pub starts : K.opened ≡ Between Data
  pub is_instruction : is_written instruction ≡ true
  pub text : normalised K.input X ≡ written instruction
