-- A processing instruction tells no text, so a collector keeps its messages one by one.
use Rattle.std.proofs.Common.{◌≡◌, ℕ, Bool, true, false, List, [], ◌++◌, refl, ◌∙◌, ap}
use Rattle.std.specs.Prelude.{codes}
use Rattle.html5ever_interface.specs.Collected.{Collected, none_collected, collected_step, collected_reply, collected_finish}
use Rattle.html5ever_interface.specs.Sink.{stepped, on_line}
use Rattle.html5ever_interface.specs.declared.states.State.TheVariants as state
use Rattle.html5reading.specs.NormalisedText.{line_after}
use Rattle.html5grammar.specs.Instruction.{WrittenInstruction, written, spell_end, spell_instruction, told_at_end, messages_of, instruction_messages, IsInstruction}
use Rattle.html5grammar.specs.Spelled.{Spelled, spell, spell_silent}
use Rattle.html5reading.specs.Reading.{reading, messages}
use Rattle.html5reading.specs.Start.{Input, Start, Rules}
use Rattle.html5reading.specs.Tag.{null_error}
use Rattle.html5grammar.proofs.Instruction.Reading.{reading-instruction}
use Rattle.html5grammar.proofs.Collected.{HasNoText, HasNoText-where, TellNoText, TellNoText-append, TellNoText-spell, TellNoText-silent, collected-on_line, collected-spelled_messages, KeepsAll, keeps-append}

module _ (exact : Bool) where
  TellNoText-end : (is_ended : Bool) (content : List ℕ) → TellNoText (spell_end is_ended content)
  TellNoText-end true content = ((refl, tt), tt)
  TellNoText-end false content = tt

  TellNoText-instruction : (instruction : WrittenInstruction) → TellNoText (spell_instruction exact instruction)
  TellNoText-instruction instruction =
      let content : List ℕ = instruction.content in
      let cells : List Spelled = spell (null_error exact state.ProcessingInstruction) content in
      TellNoText-append (spell_silent (codes "<?")) (cells ++ spell_end instruction.is_ended content) (TellNoText-silent (codes "<?"))
      (TellNoText-append cells (spell_end instruction.is_ended content)
      (TellNoText-spell (null_error exact state.ProcessingInstruction) (λ c. HasNoText-where _ _) content)
      (TellNoText-end instruction.is_ended content))

  HasNoText-at_end : (is_ended : Bool) (content : List ℕ) → HasNoText (told_at_end exact is_ended content)
  HasNoText-at_end true content = (refl, tt)
  HasNoText-at_end false content = (refl, (refl, (refl, tt)))

  -- a collector that is sent one instruction holds its messages
  collected-instruction : (input : Input) (instruction : WrittenInstruction) → KeepsAll (instruction_messages exact input instruction)
  unfolding messages_of instruction_messages
  collected-instruction input instruction =
      let line : ℕ = line_after input (written instruction) in
      let at_end = told_at_end exact instruction.is_ended instruction.content in
      keeps-append (messages_of exact input instruction) (on_line line at_end)
      (λ c. collected-spelled_messages exact input [] c (spell_instruction exact instruction) (TellNoText-instruction instruction))
      (λ c. collected-on_line c line at_end (HasNoText-at_end instruction.is_ended instruction.content))

-- what a collector holds after a text that is one instruction
pub collects-instruction : (H : Type 0) (rules : Rules) (K : Start) (foreign : Bool) (X : List ℕ) (instruction : WrittenInstruction) → IsInstruction K X instruction
    → collected_finish (stepped collected_step (none_collected foreign) (messages (reading collected_step (collected_reply {H = H}) (λ (c : Collected). c.foreign) rules K (none_collected foreign) X)))
    ≡ record { messages = instruction_messages rules.exact K.input instruction; finished = true; foreign = foreign }
collects-instruction H rules K foreign X instruction one =
    ap (λ M. collected_finish (stepped collected_step (none_collected foreign) M))
    (reading-instruction collected_step (collected_reply {H = H}) (λ (c : Collected). c.foreign) rules K (none_collected foreign) X instruction one)
    ∙ ap collected_finish (collected-instruction rules.exact K.input instruction (none_collected foreign))
