-- A loop that feeds a text in pieces, and writes what they print.
use Rattle.std.proofs.Common.{◌≡◌, ℕ, ◌+◌, ◌<◌, false, List, [], ◌++◌, Option, length, refl, ap, sym, subst, ◌∙◌, take, drop, arith}
use Rattle.std.proofs.Common.{Result, Ok, Err, take-append-drop}
use Rattle.std.specs.Result.{IsErrAnd, OnErr}
use Rattle.std.specs.Io.KnownBytes.{Appends}
use Rattle.std.specs.Str.{IsUtf8, chars}
use Rattle.std.proofs.Math.Seq.{take-add}
use Rattle.std.proofs.lemmas.List.{append-nil, append_assoc, length-append, length-drop}
use Rattle.std.proofs.lemmas.Str.{chars-append, chars-nil}
use Rattle.markup5ever.specs.BufferQueue.{TextQueue}
use Rattle.markup5ever.specs.NamedReferences.{NamedReference}
use Rattle.token_printer.specs.Output.{Output, Printer, blank_output, without_lines}
use Rattle.html5ever.specs.Tokenizer.{Tokenizing, StandsAt, ReadsOn, rules_of, state_at_end}
use Rattle.html5ever.proofs.Standing.{StandsAt-start}
use Rattle.html5reading.specs.Reading.{state_after, start_after}
use Rattle.html5reading.specs.Start.{Start, Rules, start_of}
use Rattle.html5ever_interface.specs.Options.{OptionsOf}
use Rattle.devices.proofs.KnownBytes.{Appends-append, Appends-kept, AppendsBeginning-stopped}
use Rattle.devices.specs.Device.{AppendsBeginning}
use Rattle.devices.specs.declared.fault.Fault.{Fault}
use Rattle.html5cli.specs.Printing.{printer_means, printed_reading, after_bytes, after_written, output_at_end, WritesFront, PrintsOn, PrintsShort}
use Rattle.html5cli.specs.Settings.{SettingsOf}
use Rattle.html5cli.proofs.TextCuts.{IsCut, IsPiece, IsCut-start, IsCut-front}
use Rattle.html5cli.proofs.PrintedOutput.{Keeps-same, printed-output}
use Rattle.html5cli.proofs.WrittenOutput.{IsLonger, further-output, further-start, ended-output, decided-short}

-- ---- known bytes

pub Appends-nothing : (known : Option (List ℕ)) → Appends known known []
Appends-nothing known = Appends-kept known known (Keeps-same known)

-- nothing was written of some bytes
pub AppendsBeginning-nothing : (known : Option (List ℕ)) (all : List ℕ) → 0 < length all → AppendsBeginning known known all
AppendsBeginning-nothing known all some = AppendsBeginning-stopped known known known all [] all refl some (Appends-nothing known) (Appends-nothing known)

-- a front was written, and then a prefix of the output after it
pub AppendsBeginning-after : (before between after : Option (List ℕ)) (all front output more : List ℕ) → all ≡ (front ++ output) ++ more
    → Appends before between front → AppendsBeginning between after output → AppendsBeginning before after all
AppendsBeginning-after before between after all front output more parts written (n, short, begun) =
    let done : List ℕ = take n output in
    let rest : List ℕ = drop n output in
    let split : all ≡ (front ++ done) ++ (rest ++ more) =
    parts
    ∙ ap (λ l. (front ++ l) ++ more) (sym (take-append-drop n output))
    ∙ append_assoc front (done ++ rest) more
    ∙ ap (λ l. front ++ l) (append_assoc done rest more)
    ∙ sym (append_assoc front done (rest ++ more)) in
    AppendsBeginning-stopped before after after all (front ++ done) (rest ++ more) split
    (omega (arith, length-append rest more, length-drop n output, short))
    (Appends-append before between after front done written begun) (Appends-nothing after)

-- ---- the output

-- nothing was written
pub WritesFront-none : (known : Option (List ℕ)) (output : Output) → WritesFront known known output output
WritesFront-none known output = record { front = []; written = Appends-nothing known; parts = refl }

-- the whole output was written
pub WritesFront-all : (before after : Option (List ℕ)) (output left : Output) → Appends before after output.lines → left ≡ without_lines output
    → WritesFront before after output left
WritesFront-all before after output left written cleared = record {
  front = output.lines;
  written = written;
  parts = ap (λ l. record output { lines = l }) (sym (append-nil output.lines)) ∙ ap (after_bytes output.lines) (sym cleared);
}

-- ---- where the tokenizer stands

-- it read on from an output of which a front was written, and some more was written then
StandsAt-written : (front : List ℕ) (before after : Option (List ℕ)) (now next : Tokenizing Printer) (left : Printer) (K : Start) (p : Output) (text piece : List ℕ)
    → StandsAt printer_means (after_written front now) K p text → ReadsOn printer_means now next piece → next.rules ≡ now.rules
    → (w : WritesFront before after next.sink.output left.output)
    → StandsAt printer_means (after_written (front ++ w.front) (record next { sink = left })) K p (text ++ piece)
StandsAt-written front before after now next left K p text piece stands reads rules w =
    let R : Rules = now.rules in
    let fed = reads now.position now.sink.output [] (StandsAt-start printer_means now now.position refl stands.not_failed stands.not_ended) in
    let output : next.sink.output ≡ state_after printer_means R (start_after printer_means R K p text) now.sink.output piece =
    fed.told
    ∙ ap (λ (r : Rules). state_after printer_means r now.position now.sink.output piece) rules
    ∙ ap (λ P. state_after printer_means R P now.sink.output piece) stands.position in
    let position : next.position ≡ start_after printer_means R (start_after printer_means R K p text) now.sink.output piece =
    fed.position
    ∙ ap (λ (r : Rules). start_after printer_means r now.position now.sink.output piece) rules
    ∙ ap (λ P. start_after printer_means R P now.sink.output piece) stands.position in
    record {
      told = ap (λ l. record left.output { lines = l }) (append_assoc front w.front left.output.lines)
          ∙ ap (after_bytes front) (sym w.parts)
          ∙ ap (after_bytes front) output
          ∙ further-output R K p text front now.sink.output stands.told piece
          ∙ ap (λ (r : Rules). state_after printer_means r K p (text ++ piece)) (sym rules);
      position = position
          ∙ further-start R K p text front now.sink.output stands.told piece
          ∙ ap (λ (r : Rules). start_after printer_means r K p (text ++ piece)) (sym rules);
      not_failed = fed.not_failed;
      not_ended = fed.not_ended;
    }

-- ---- the loop

-- the first bytes of the text were fed, up to a place between two characters
pub record FedTo (before after : Option (List ℕ)) (first now : Tokenizing Printer) (text : List ℕ) (start : ℕ) (queue : TextQueue) : Type 0 where
  pub cut : IsCut text start
  pub prints : PrintsOn before after first now (chars (take start text))
  pub rules : now.rules ≡ first.rules
  pub going_on : now.ended ≡ false
  pub not_failed : now.failed ≡ false
  pub waiting : queue.text ≡ []

pub FedTo-start : (known : Option (List ℕ)) (first : Tokenizing Printer) (text : List ℕ) (queue : TextQueue) → IsUtf8 text
    → first.ended ≡ false → first.failed ≡ false → queue.text ≡ [] → FedTo known known first first text 0 queue
FedTo-start known first text queue utf8 going_on not_failed waiting = record {
  cut = IsCut-start text utf8;
  prints = record {
    front = [];
    written = Appends-nothing known;
    reads = λ K s X stands. rw (chars-nil, append-nil X) stands;
  };
  rules = refl;
  going_on = going_on;
  not_failed = not_failed;
  waiting = waiting;
}

-- one piece more of the text was fed, and what is full was written
pub FedTo-more : (before between after : Option (List ℕ)) (first now next : Tokenizing Printer) (left : Printer) (text piece : List ℕ) (start len : ℕ) (queue later : TextQueue)
    → FedTo before between first now text start queue → IsUtf8 text → IsPiece text start len piece
    → ReadsOn printer_means now next (chars piece)
    → next.rules ≡ now.rules → next.ended ≡ false → next.failed ≡ false → later.text ≡ []
    → WritesFront between after next.sink.output left.output
    → FedTo before after first (record next { sink = left }) text (start + len) later
FedTo-more before between after first now next left text piece start len queue later fed utf8 cut reads rules going_on not_failed waiting w =
    let front : chars (take (start + len) text) ≡ chars (take start text) ++ chars piece =
    ap chars (take-add start len text)
    ∙ chars-append (take start text) (take len (drop start text)) (IsCut-front text start utf8 fed.cut)
    ∙ ap (λ l. chars (take start text) ++ chars l) (sym cut.is) in
    record {
      cut = cut.cut;
      prints = record {
        front = fed.prints.front ++ w.front;
        written = Appends-append before between after fed.prints.front w.front fed.prints.written w.written;
        reads = λ K s X stands.
            rw (front, ← append_assoc X (chars (take start text)) (chars piece))
            (StandsAt-written fed.prints.front between after now next left K s (X ++ chars (take start text)) (chars piece) (fed.prints.reads K s X stands) reads rules w);
      };
      rules = rules ∙ fed.rules;
      going_on = going_on;
      not_failed = not_failed;
      waiting = waiting;
    }

-- at its end all of the text was fed
pub FedTo-all : (before after : Option (List ℕ)) (first now : Tokenizing Printer) (text : List ℕ) (start : ℕ) (queue : TextQueue)
    → FedTo before after first now text start queue → take start text ≡ text → PrintsOn before after first now (chars text)
FedTo-all before after first now text start queue fed all = subst (λ l. PrintsOn before after first now (chars l)) all fed.prints

-- what was written and what the output has are short of the whole
FedTo-longer : (before after : Option (List ℕ)) (first now : Tokenizing Printer) (text : List ℕ) (start : ℕ) (queue : TextQueue)
    → (fed : FedTo before after first now text start queue) → IsUtf8 text → (K : Start) (p : Output) (X : List ℕ) → StandsAt printer_means first K p X
    → IsLonger (state_at_end printer_means first.rules K p (X ++ chars text)).lines (fed.prints.front ++ now.sink.output.lines)
FedTo-longer before after first now text start queue fed utf8 K p X stands =
    let R : Rules = first.rules in
    let done : List ℕ = chars (take start text) in
    let rest : List ℕ = chars (drop start text) in
    let parts : (X ++ done) ++ rest ≡ X ++ chars text =
    append_assoc X done rest
    ∙ ap (λ l. X ++ l) (sym (chars-append (take start text) (drop start text) (IsCut-front text start utf8 fed.cut)) ∙ ap chars (take-append-drop start text)) in
    let told : after_bytes fed.prints.front now.sink.output ≡ state_after printer_means R K p (X ++ done) =
    (fed.prints.reads K p X stands).told ∙ ap (λ (r : Rules). state_after printer_means r K p (X ++ done)) fed.rules in
    let longer = decided-short R K p (X ++ done) rest in
    record {
      more = longer.more;
      some = longer.some;
      parts = ap (λ l. (state_at_end printer_means R K p l).lines) (sym parts) ∙ longer.parts ∙ ap (λ (q : Output). q.lines ++ longer.more) (sym told);
    }

-- nothing more was written
pub FedTo-short : (before after : Option (List ℕ)) (first now : Tokenizing Printer) (text : List ℕ) (start : ℕ) (queue : TextQueue)
    → FedTo before after first now text start queue → IsUtf8 text → PrintsShort before after first (chars text)
FedTo-short before after first now text start queue fed utf8 K p X stands =
    let longer = FedTo-longer before after first now text start queue fed utf8 K p X stands in
    AppendsBeginning-stopped before after after _ fed.prints.front (now.sink.output.lines ++ longer.more)
    (longer.parts ∙ append_assoc fed.prints.front now.sink.output.lines longer.more)
    (omega (arith, length-append now.sink.output.lines longer.more, longer.some))
    fed.prints.written (Appends-nothing after)

-- a prefix of the output was written
pub FedTo-unwritten : (before between after : Option (List ℕ)) (first now : Tokenizing Printer) (text : List ℕ) (start : ℕ) (queue : TextQueue)
    → FedTo before between first now text start queue → IsUtf8 text → AppendsBeginning between after now.sink.output.lines
    → PrintsShort before after first (chars text)
FedTo-unwritten before between after first now text start queue fed utf8 begun K p X stands =
    let longer = FedTo-longer before between first now text start queue fed utf8 K p X stands in
    AppendsBeginning-after before between after _ fed.prints.front now.sink.output.lines longer.more longer.parts fed.prints.written begun

-- ---- from the start of a stream

-- the output of a whole reading has its lines
pub printed-whole : (settings : SettingsOf) (references : List NamedReference) (rules : Rules) (opts : OptionsOf) (p : Output) (bytes : List ℕ)
    → opts ≡ settings.opts → p ≡ blank_output settings.foreign → rules ≡ rules_of opts references
    → (state_at_end printer_means rules (start_of opts) p (chars bytes)).lines ≡ printed_reading settings references bytes
printed-whole settings references rules opts p bytes same blank is_rules =
    ap (λ (o : OptionsOf). (state_at_end printer_means rules (start_of o) p (chars bytes)).lines) same
    ∙ printed-output rules settings references p bytes (is_rules ∙ ap (λ (o : OptionsOf). rules_of o references) same) blank

-- what was written, and what the output has at the end, are the printed reading
pub printed-parts : (settings : SettingsOf) (references : List NamedReference) (opts : OptionsOf) (p : Output) (t : Tokenizing Printer) (front bytes : List ℕ)
    → opts ≡ settings.opts → p ≡ blank_output settings.foreign → t.rules ≡ rules_of opts references
    → StandsAt printer_means (after_written front t) (start_of opts) p (chars bytes)
    → front ++ (output_at_end t).lines ≡ printed_reading settings references bytes
printed-parts settings references opts p t front bytes same blank is_rules stands =
    ap (λ P. front ++ (state_at_end printer_means t.rules P t.sink.output []).lines) stands.position
    ∙ ap (λ (q : Output). q.lines) (ended-output t.rules (start_of opts) p (chars bytes) front t.sink.output stands.told)
    ∙ printed-whole settings references t.rules opts p bytes same blank is_rules

-- there is always something to print
pub some-at_end : (rules : Rules) (K : Start) (p : Output) (text : List ℕ) → 0 < length (state_at_end printer_means rules K p text).lines
some-at_end rules K p text =
    let longer = decided-short rules K p [] text in
    omega (arith, ap (λ (l : List ℕ). length l) longer.parts, length-append (state_after printer_means rules K p []).lines longer.more, longer.some)

pub some-printed : (settings : SettingsOf) (references : List NamedReference) (bytes : List ℕ) → 0 < length (printed_reading settings references bytes)
some-printed settings references bytes =
    subst (λ (l : List ℕ). 0 < length l)
    (printed-output (rules_of settings.opts references) settings references (blank_output settings.foreign) bytes refl refl)
    (some-at_end (rules_of settings.opts references) (start_of settings.opts) (blank_output settings.foreign) (chars bytes))

-- ---- faults

-- what holds anyway holds of an error
pub on_err-anyway : {T E P : Type 0} (r : Result T E) → P → OnErr r P
on_err-anyway (Ok x) p = tt
on_err-anyway (Err e) p = p

-- the fault of a `?`
pub fault_is : {T : Type 0} (r : Result T Fault) (e f : Fault) → IsErrAnd r (λ x. x ≡ e) → r ≡ Err f → e ≡ f
fault_is (Ok x) e f h same = absurd h
fault_is (Err x) e f h same = sym h ∙ cc
