-- A text that is one processing instruction tells the instruction's messages.
use Rattle.std.proofs.Common.{◌≡◌, ℕ, Bool, true, false, List, [], ◌∷◌, ◌++◌, refl, ap, ◌∙◌, subst}
use Rattle.std.specs.Prelude.{◌==◌, not, codes, if◌then◌else◌}
use Rattle.std.specs.List.{list_all}
use Rattle.std.proofs.lemmas.Bool.{and_parts, not-true}
use Rattle.std.proofs.lemmas.List.{append_assoc, append-nil}
use Rattle.html5ever_interface.specs.Token.{Told, Reply}
use Rattle.html5ever_interface.specs.declared.states.State.TheVariants as state
use Rattle.html5reading.specs.Characters.{greater_than, is_letter}
use Rattle.html5reading.specs.EndOfInput.{late_at_end_of, open_at_end_of, told_at_end_of, tokens_at_end}
use Rattle.html5reading.specs.Instruction.{in_instruction}
use Rattle.html5reading.specs.NormalisedText.{normalised, line_after}
use Rattle.html5grammar.specs.Instruction.{WrittenInstruction, end_text, written, is_written, told_content, spell_end, spell_instruction, told_at_end, messages_of, instruction_messages, open_after_instruction, IsInstruction}
use Rattle.html5grammar.specs.Spelled.{Spelled, spell, spell_silent}
use Rattle.html5reading.specs.Reading.{reading, told, messages, after}
use Rattle.html5reading.specs.Slice.{silent}
use Rattle.html5reading.specs.Start.{Open, Start, Rules, is_undecided_open}
use Rattle.html5reading.specs.Start.Mode.{Data}
use Rattle.html5reading.specs.Start.Open.{Between, LessThan, InInstruction}
use Rattle.html5reading.specs.Tag.{null_error}
use Rattle.html5grammar.proofs.Leading.{leads-goes, trace-text}
use Rattle.html5reading.specs.Machine.{step_at, data_step, less_than_step, instruction_step}
use Rattle.html5grammar.proofs.Comment.Text.{bytes_of, bytes-push}
use Rattle.html5grammar.proofs.Goes.{characters, characters-spell, characters-two, Goes, Goes-append, Goes-one}
use Rattle.html5reading.proofs.ReadingLemmas.{told-trace, after-opened, reading-events, messages-at_end}
use Rattle.html5reading.proofs.Traces.{Trace, trace, messages-append}

-- ---- the characters that are spelled are the text

characters-end : (is_ended : Bool) (content : List ℕ) → characters (spell_end is_ended content) ≡ end_text is_ended
characters-end true content = refl
characters-end false content = refl

characters-instruction : (exact : Bool) (instruction : WrittenInstruction) → characters (spell_instruction exact instruction) ≡ written instruction
unfolding written
characters-instruction exact instruction =
    let content : List ℕ = instruction.content in
    let cells : List Spelled = spell (null_error exact state.ProcessingInstruction) content in
    characters-two (spell_silent (codes "<?")) (cells ++ spell_end instruction.is_ended content) (codes "<?") (content ++ end_text instruction.is_ended)
    (characters-spell silent (codes "<?"))
    (characters-two cells (spell_end instruction.is_ended content) content (end_text instruction.is_ended)
    (characters-spell (null_error exact state.ProcessingInstruction) content) (characters-end instruction.is_ended content))

-- ---- the machine reads them

module _ (exact : Bool) where
  -- the content of an instruction, character by character
  goes-content : (before text : List ℕ) → list_all in_instruction text ≡ true
      → Goes exact (InInstruction (bytes_of before)) (spell (null_error exact state.ProcessingInstruction) text) (InInstruction (bytes_of (before ++ text)))
  unfolding Goes step_at instruction_step in_instruction
  goes-content before [] h = rw (append-nil before) refl
  goes-content before (c ∷ text) h =
      let p = and_parts (not (c == greater_than)) (list_all in_instruction text) h in (
        InInstruction (bytes_of (before ++ c ∷ [])),
        rw (not-true (c == greater_than) p.0, bytes-push before c) refl,
        subst (λ l. Goes exact (InInstruction (bytes_of (before ++ c ∷ []))) (spell (null_error exact state.ProcessingInstruction) text) (InInstruction (bytes_of l)))
            (append_assoc before (c ∷ []) text) (goes-content (before ++ c ∷ []) text p.1),
      )

  goes-end : (content : List ℕ) (is_ended : Bool)
      → Goes exact (InInstruction (bytes_of content)) (spell_end is_ended content) (if is_ended then Between Data else InInstruction (bytes_of content))
  unfolding Goes step_at instruction_step
  goes-end content true = Goes-one exact (InInstruction (bytes_of content)) (Between Data) greater_than (told_content content ∷ []) refl
  goes-end content false = refl

  -- the walk reads an instruction as its spelled characters say
  goes-instruction : (instruction : WrittenInstruction) → is_written instruction ≡ true
      → Goes exact (Between Data) (spell_instruction exact instruction) (open_after_instruction instruction)
  unfolding is_written Goes step_at data_step less_than_step is_letter
  goes-instruction instruction h =
      let content : List ℕ = instruction.content in
      let cells : List Spelled = spell (null_error exact state.ProcessingInstruction) content in (
        LessThan,
        refl,
        (
          InInstruction [],
          refl,
          Goes-append exact (InInstruction []) (InInstruction (bytes_of content)) (open_after_instruction instruction) cells (spell_end instruction.is_ended content)
              (goes-content [] content h) (goes-end content instruction.is_ended),
        ),
      )

decided-after : (is_ended : Bool) (content : List ℕ) → is_undecided_open (if is_ended then Between Data else InInstruction content) ≡ false
decided-after true content = refl
decided-after false content = refl

-- ---- what the end tells

tokens_at_end-instruction : (rules : Rules) (is_ended : Bool) (content : List ℕ)
    → tokens_at_end rules (if is_ended then Between Data else InInstruction (bytes_of content)) ≡ told_at_end rules.exact is_ended content
unfolding late_at_end_of open_at_end_of told_at_end_of
tokens_at_end-instruction rules true content = refl
tokens_at_end-instruction rules false content = refl

module _ {S H : Type 0} (step : S → Told → ℕ → S) (reply : S → Told → ℕ → Reply H) (foreign : S → Bool) (rules : Rules) where
  -- an instruction, written out, tells its messages
  pub reads : (K : Start) (s : S) (X : List ℕ) (instruction : WrittenInstruction) → IsInstruction K X instruction
      → trace step reply foreign rules s (line_after K.input []) K.last_start_tag K.opened (normalised K.input X)
      ≡ record { messages = messages_of rules.exact K.input instruction; opened = open_after_instruction instruction; last_start_tag = K.last_start_tag }
  unfolding messages_of
  reads K s X instruction one =
      let cells : List Spelled = spell_instruction rules.exact instruction in
      let later : Open = open_after_instruction instruction in
      rw (one.starts, one.text)
      (trace-text step reply foreign rules K.input [] s K.last_start_tag (Between Data) later cells (written instruction)
      (characters-instruction rules.exact instruction)
      (leads-goes rules (Between Data) later cells (decided-after instruction.is_ended (bytes_of instruction.content))
      (goes-instruction rules.exact instruction one.is_instruction)))

  after-instruction : (K : Start) (s : S) (X : List ℕ) (instruction : WrittenInstruction) → IsInstruction K X instruction
      → (after step reply foreign rules K s X).opened ≡ open_after_instruction instruction
  after-instruction K s X instruction one = after-opened step reply foreign rules K s X ∙ ap (λ (t : Trace). t.opened) (reads K s X instruction one)

  -- a text that is one instruction
  pub reading-instruction : (K : Start) (s : S) (X : List ℕ) (instruction : WrittenInstruction) → IsInstruction K X instruction
      → messages (reading step reply foreign rules K s X) ≡ instruction_messages rules.exact K.input instruction
  unfolding instruction_messages
  reading-instruction K s X instruction one =
      ap messages (reading-events step reply foreign rules K s X)
      ∙ messages-append (told step reply foreign rules K s X) _
      ∙ ap (λ N. messages (told step reply foreign rules K s X) ++ N) (messages-at_end step reply foreign rules K s X)
      ∙ rw (told-trace step reply foreign rules K s X, after-instruction K s X instruction one, reads K s X instruction one, tokens_at_end-instruction rules instruction.is_ended instruction.content, one.text) refl
