-- The output of a whole reading, and what is known of the bytes of a reader that was read to its end.
use Rattle.std.proofs.Common.{◌≡◌, ℕ, Bool, List, [], ◌∷◌, ◌++◌, Option, None, Some, refl, ap, sym, ◌∙◌}
use Rattle.std.specs.Prelude.{IfSome, codes}
use Rattle.std.specs.Io.KnownBytes.{Consumes, IsAtEnd, Keeps}
use Rattle.std.specs.Str.{chars}
use Rattle.std.proofs.lemmas.List.{append-nil, append_assoc, map-append}
use Rattle.html5ever_interface.specs.Sink.{Message, stepped, on_line}
use Rattle.html5ever_interface.specs.Token.{Told, Reply}
use Rattle.html5ever_interface.specs.Token.Told.{Text, Comment, Instruction, End}
use Rattle.html5ever_interface.specs.declared.states.State.TheVariants as state
use Rattle.html5reading.specs.Comment.{comment_content, comment_state}
use Rattle.html5reading.specs.Doctype.{with_quirks}
use Rattle.html5reading.specs.EndOfInput.{late_at_end_of, open_at_end_of, told_at_doctype_end, told_at_end_of, told_at_raw_end, raw_end_error, state_at}
use Rattle.html5reading.specs.ErrorText.{end_error_in}
use Rattle.html5reading.specs.NormalisedText.{normalised, line_after}
use Rattle.html5reading.specs.RawText.{texts}
use Rattle.html5reading.specs.Reading.{Event, end_events, late_events, read, reading, told, messages}
use Rattle.html5reading.specs.Reading.TextPlace.{EndOfInput}
use Rattle.html5reading.specs.Start.{Start, Mode, Open, Rules, start_of}
use Rattle.html5reading.specs.Start.Mode.{Data, Plain, RawText, Cdata}
use Rattle.html5reading.specs.Start.DoctypePlace.{Skipped}
use Rattle.html5reading.specs.Start.Open.{Between, LessThan, LessThanSolidus, InTag, InRaw, InDeclaration, InComment, InBogusComment, InInstruction, InDoctype, InDoctypeKeyword, InCdata, InReference}
use Rattle.html5reading.specs.Start.Place.{InValue}
use Rattle.html5reading.specs.Start.Stand.{InText, InAttribute}
use Rattle.html5reading.proofs.ReadingLemmas.{reading-events}
use Rattle.html5reading.proofs.Traces.{messages-append, messages-map}
use Rattle.html5ever.specs.Tokenizer.{rules_of}
use Rattle.token_printer.specs.Output.{Output, output_step, output_reply, output_foreign, blank_output}
use Rattle.token_printer.proofs.Outputs.{lines-stepped}
use Rattle.devices.specs.Device.{ConsumesBeginning}
use Rattle.html5cli.specs.Printing.{printed_reading}
use Rattle.html5cli.specs.Settings.{SettingsOf}
use Rattle.markup5ever.specs.NamedReferences.{NamedReference}

-- the end is sent last
EndsWithEnd : List Told → Type 0
EndsWithEnd tokens = (front : List Told) × (tokens ≡ front ++ End ∷ [])

between-ends : (exact : Bool) (mode : Mode) → EndsWithEnd (told_at_end_of exact (Between mode))
unfolding told_at_end_of EndsWithEnd
between-ends exact Data = ([], refl)
between-ends exact Plain = ([], refl)
between-ends exact Cdata = (end_error_in exact state.CdataSection ∷ [], refl)
between-ends exact (RawText raw name) = (raw_end_error exact raw, refl)

-- whatever is open, the end tells the end last
told_at_end_of-ends : (rules : Rules) (opened : Open) → EndsWithEnd (told_at_end_of rules.exact (open_at_end_of rules opened))
unfolding told_at_end_of open_at_end_of EndsWithEnd
told_at_end_of-ends rules (Between mode) = between-ends rules.exact mode
told_at_end_of-ends rules LessThan = (end_error_in rules.exact state.TagOpen ∷ Text (codes "<") ∷ [], refl)
told_at_end_of-ends rules LessThanSolidus = (end_error_in rules.exact state.EndTagOpen ∷ Text (codes "<") ∷ Text (codes "/") ∷ [], refl)
told_at_end_of-ends rules (InTag place tag) = (end_error_in rules.exact (state_at place) ∷ [], refl)
told_at_end_of-ends rules (InRaw place name) = (told_at_raw_end rules.exact place, refl)
told_at_end_of-ends rules (InDeclaration held) = (Comment held ∷ [], refl)
told_at_end_of-ends rules (InComment text) = (end_error_in rules.exact (comment_state state.CommentEnd text) ∷ Comment (comment_content text) ∷ [], refl)
told_at_end_of-ends rules (InBogusComment text) = (Comment text ∷ [], refl)
told_at_end_of-ends rules (InInstruction content) = (end_error_in rules.exact state.ProcessingInstruction ∷ Instruction content ∷ [], refl)
told_at_end_of-ends rules (InDoctype place doctype) = (told_at_doctype_end rules.exact place doctype, refl)
told_at_end_of-ends rules (InDoctypeKeyword held doctype) = (told_at_doctype_end rules.exact Skipped (with_quirks doctype), refl)
told_at_end_of-ends rules (InCdata held) =
    (texts held ++ end_error_in rules.exact state.CdataSection ∷ [], sym (append_assoc (texts held) (end_error_in rules.exact state.CdataSection ∷ []) (End ∷ [])))
told_at_end_of-ends rules (InReference (InText mode) held) = between-ends rules.exact mode
told_at_end_of-ends rules (InReference (InAttribute kind tag) held) = (end_error_in rules.exact (state_at (InValue kind)) ∷ [], refl)

-- a reading ends with the end of input
module _ (rules : Rules) (K : Start) (p : Output) (X : List ℕ) where
  abbrev reply : Output → Told → ℕ → Reply (Unit {0})
  reply = output_reply

  -- what the end decides of a reference
  abbrev late-events : List Event
  late-events = late_events K.input (normalised K.input X) EndOfInput (late_at_end_of rules (read output_step reply output_foreign rules K p X).opened)

  front-messages : List Told → List Message
  front-messages tokens = messages (told output_step reply output_foreign rules K p X) ++ (messages late-events ++ on_line (line_after K.input (normalised K.input X)) tokens)

  -- so a reading ends with the end
  reading-ends : (tokens : List Told) → told_at_end_of rules.exact (open_at_end_of rules (read output_step reply output_foreign rules K p X).opened) ≡ tokens ++ End ∷ []
      → messages (reading output_step reply output_foreign rules K p X)
      ≡ front-messages tokens ++ record { token = End; line = line_after K.input (normalised K.input X) } ∷ []
  unfolding end_events front-messages
  reading-ends tokens ends =
      let line : ℕ = line_after K.input (normalised K.input X) in
      let front : List Message = messages (told output_step reply output_foreign rules K p X) in
      let end : List Message = record { token = End; line = line } ∷ [] in
      ap (λ E. messages E) (reading-events output_step reply output_foreign rules K p X)
      ∙ messages-append (told output_step reply output_foreign rules K p X) (end_events output_step reply output_foreign rules K (read output_step reply output_foreign rules K p X).opened (normalised K.input X))
      ∙ ap (λ M. front ++ M)
      (messages-append late-events _
      ∙ ap (λ M. messages late-events ++ M)
      (messages-map _ _ (λ t. refl) (told_at_end_of rules.exact (open_at_end_of rules (read output_step reply output_foreign rules K p X).opened))
      ∙ ap (on_line line) ends
      ∙ map-append (λ (token : Told). record { token = token; line = line }) tokens (End ∷ []))
      ∙ sym (append_assoc (messages late-events) (on_line line tokens) end))
      ∙ sym (append_assoc front (messages late-events ++ on_line line tokens) end)

-- a reading is what the text decides, and then what ends with the end
pub record EndsLast (M front : List Message) : Type 0 where
  pub late : List Message
  pub line : ℕ
  pub parts : M ≡ front ++ (late ++ record { token = End; line = line } ∷ [])

pub end-is_last : (rules : Rules) (K : Start) (p : Output) (X : List ℕ)
    → EndsLast (messages (reading output_step output_reply output_foreign rules K p X)) (messages (told output_step output_reply output_foreign rules K p X))
unfolding EndsWithEnd front-messages
end-is_last rules K p X =
    let ends = told_at_end_of-ends rules (read output_step output_reply output_foreign rules K p X).opened in
    let front : List Message = messages (told output_step output_reply output_foreign rules K p X) in
    let late : List Message = messages (late-events rules K p X) ++ on_line (line_after K.input (normalised K.input X)) ends.0 in
    record {
      late = late;
      line = line_after K.input (normalised K.input X);
      parts = reading-ends rules K p X ends.0 ends.1 ∙ append_assoc front late (record { token = End; line = line_after K.input (normalised K.input X) } ∷ []);
    }

-- an output that a reading was printed to has its lines
pub printed-output : (rules : Rules) (settings : SettingsOf) (references : List NamedReference) (p : Output) (bytes : List ℕ)
    → rules ≡ rules_of settings.opts references → p ≡ blank_output settings.foreign
    → (stepped output_step p (messages (reading output_step output_reply output_foreign rules (start_of settings.opts) p (chars bytes)))).lines ≡ printed_reading settings references bytes
unfolding printed_reading EndsWithEnd
printed-output rules settings references p bytes same blank =
    let M : List Message = messages (reading output_step output_reply output_foreign (rules_of settings.opts references) (start_of settings.opts) (blank_output settings.foreign) (chars bytes)) in
    let ends = told_at_end_of-ends (rules_of settings.opts references) (read output_step output_reply output_foreign (rules_of settings.opts references) (start_of settings.opts) (blank_output settings.foreign) (chars bytes)).opened in
    rw (same, blank) (lines-stepped (blank_output settings.foreign) M _ _ refl
    (reading-ends (rules_of settings.opts references) (start_of settings.opts) (blank_output settings.foreign) (chars bytes) ends.0 ends.1))

-- bytes that were read to their end are all that there was
pub Consumes-whole : (old new : Option (List ℕ)) (bytes : List ℕ) → IfSome old (λ xs. bytes ≡ xs) → IsAtEnd new → ConsumesBeginning old new → Consumes old new bytes
Consumes-whole None new bytes whole at_end consumed = tt
Consumes-whole (Some xs) None bytes whole at_end consumed = absurd consumed.1
Consumes-whole (Some xs) (Some ys) bytes whole at_end consumed = sym whole ∙ sym (append-nil bytes) ∙ ap (λ l. bytes ++ l) (sym at_end)

pub Keeps-same : (known : Option (List ℕ)) → Keeps known known
Keeps-same None = tt
Keeps-same (Some xs) = refl
