-- How a text is read does not depend on what an output has printed.
use Rattle.std.proofs.Common.{◌≡◌, ℕ, List, [], ◌∷◌, ◌++◌, refl, ap, sym, ◌∙◌}
use Rattle.html5ever_interface.specs.Sink.{Message, stepped, on_line}
use Rattle.html5ever_interface.specs.Token.{Told}
use Rattle.html5ever_interface.specs.Token.Told.{Tag}
use Rattle.html5reading.specs.ErrorText.{bad_character_error}
use Rattle.html5reading.specs.Machine.{brought_at}
use Rattle.html5reading.specs.NormalisedText.{normalised, line_after}
use Rattle.html5reading.specs.Reading.{Here, Brought, last_after, open_after_reply, messages_so_far, start_after}
use Rattle.html5reading.specs.Reading.Here.{Tells, TellsTag}
use Rattle.html5reading.specs.Slice.{tokens_of_late}
use Rattle.html5reading.specs.Start.{Start, Open, Rules}
use Rattle.html5reading.proofs.InputLemmas.{line_past}
use Rattle.html5reading.proofs.ReadingLemmas.{told-trace, after-opened, after-last}
use Rattle.html5reading.proofs.Traces.{Trace, with_messages, trace, trace_here, trace_brought}
use Rattle.token_printer.specs.Output.{Output, output_step, output_reply, output_foreign}
use Rattle.html5cli.specs.Printing.{printer_means}

foreign-step : (p : Output) (told : Told) (line : ℕ) → (output_step p told line).foreign ≡ p.foreign
unfolding output_step
foreign-step p told line = refl

foreign-stepped : (p : Output) (M : List Message) → (stepped output_step p M).foreign ≡ p.foreign
unfolding stepped
foreign-stepped p [] = refl
foreign-stepped p (m ∷ M) = foreign-stepped (output_step p m.token m.line) M ∙ foreign-step p m.token m.line

foreign-same : (p q : Output) (M : List Message) → p.foreign ≡ q.foreign → (stepped output_step p M).foreign ≡ (stepped output_step q M).foreign
foreign-same p q M same = foreign-stepped p M ∙ same ∙ sym (foreign-stepped q M)

-- what goes on after a character
abbrev GoesOn : Type 0
GoesOn = Output → List ℕ → Open → Trace

-- what goes on is the same for pages with the same answer about foreign content
abbrev IsSame : GoesOn → Type 0
IsSame rest = (p q : Output) (name : List ℕ) (later : Open) → p.foreign ≡ q.foreign → rest p name later ≡ rest q name later

here-same : (rules : Rules) (rest : GoesOn) → IsSame rest → (p q : Output) (line : ℕ) (last : List ℕ) (c : ℕ) (h : Here Open) → p.foreign ≡ q.foreign
    → trace_here output_step output_reply output_foreign rules rest p line last c h ≡ trace_here output_step output_reply output_foreign rules rest q line last c h
unfolding trace_here
here-same rules rest later p q line last c (Tells told opened) same =
    let M : List Message = on_line line (bad_character_error rules.exact c ++ told) in
    ap (with_messages M) (later (stepped output_step p M) (stepped output_step q M) last opened (foreign-same p q M same))
here-same rules rest later p q line last c (TellsTag told tag) same =
    let tokens : List Told = bad_character_error rules.exact c ++ told in
    let M : List Message = on_line line tokens in
    let name : List ℕ = last_after last tag in
    let kept = foreign-step (stepped output_step p M) (Tag tag) line ∙ foreign-same p q M same ∙ sym (foreign-step (stepped output_step q M) (Tag tag) line) in
    ap (with_messages (on_line line (tokens ++ Tag tag ∷ [])))
    (later (output_step (stepped output_step p M) (Tag tag) line) (output_step (stepped output_step q M) (Tag tag) line) name (open_after_reply name (output_reply q (Tag tag) line)) kept)

brought-same : (rules : Rules) (rest : GoesOn) → IsSame rest → (p q : Output) (line : ℕ) (last : List ℕ) (c : ℕ) (next : Brought Open) → p.foreign ≡ q.foreign
    → trace_brought output_step output_reply output_foreign rules rest p line last c next ≡ trace_brought output_step output_reply output_foreign rules rest q line last c next
unfolding trace_brought
brought-same rules rest later p q line last c next same =
    let M : List Message = on_line line (tokens_of_late next.settled) in
    ap (with_messages M) (here-same rules rest later (stepped output_step p M) (stepped output_step q M) (line_past line c) last c next.here (foreign-same p q M same))

trace-same : (rules : Rules) (p q : Output) (line : ℕ) (last : List ℕ) (opened : Open) (text : List ℕ) → p.foreign ≡ q.foreign
    → trace output_step output_reply output_foreign rules p line last opened text ≡ trace output_step output_reply output_foreign rules q line last opened text
unfolding trace
trace-same rules p q line last opened [] same = refl
trace-same rules p q line last opened (c ∷ text) same =
    let rest : GoesOn = λ t name later. trace output_step output_reply output_foreign rules t (line_past line c) name later text in
    ap (λ foreign. trace_brought output_step output_reply output_foreign rules rest p line last c (brought_at rules foreign opened c)) same
    ∙ brought-same rules rest (λ t u name later equal. trace-same rules t u (line_past line c) name later text equal) p q line last c (brought_at rules q.foreign opened c) same

-- what a text tells is the same
pub told-same : (rules : Rules) (K : Start) (p q : Output) (X : List ℕ) → p.foreign ≡ q.foreign
    → messages_so_far printer_means rules K p X ≡ messages_so_far printer_means rules K q X
told-same rules K p q X same =
    told-trace output_step output_reply output_foreign rules K p X
    ∙ ap (λ (t : Trace). t.messages) (trace-same rules p q (line_after K.input []) K.last_start_tag K.opened (normalised K.input X) same)
    ∙ sym (told-trace output_step output_reply output_foreign rules K q X)

-- and the start after it
pub start-same : (rules : Rules) (K : Start) (p q : Output) (X : List ℕ) → p.foreign ≡ q.foreign
    → start_after printer_means rules K p X ≡ start_after printer_means rules K q X
start-same rules K p q X same =
    let traces = trace-same rules p q (line_after K.input []) K.last_start_tag K.opened (normalised K.input X) same in
    let opened = after-opened output_step output_reply output_foreign rules K p X ∙ ap (λ (t : Trace). t.opened) traces ∙ sym (after-opened output_step output_reply output_foreign rules K q X) in
    let last = after-last output_step output_reply output_foreign rules K p X ∙ ap (λ (t : Trace). t.last_start_tag) traces ∙ sym (after-last output_step output_reply output_foreign rules K q X) in
    rw (opened, last) refl
