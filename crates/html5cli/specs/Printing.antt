-- The printed reading of bytes, and what printing it leaves at the reader and the writer.
use Rattle.std.specs.Prelude.{◌≡◌, [], ◌++◌, ℕ, List, Option}
use Rattle.std.specs.Io.KnownBytes.{Appends, Consumes, IsAtEnd, Keeps}
use Rattle.std.specs.Str.{IsUtf8, chars}
use Rattle.devices.specs.Device.{AppendsBeginning}
use Rattle.token_printer.specs.Output.{Output, Printer, blank_output, output_step, output_reply, output_foreign, output_faulted}
use Rattle.token_printer.specs.Printed.{printed}
use Rattle.html5ever_interface.specs.Sink.{Means, Message}
use Rattle.html5reading.specs.Reading.{all_messages}
use Rattle.html5reading.specs.Start.{Start, start_of}
use Rattle.html5grammar.specs.Items.{Items}
use Rattle.html5cli.specs.Settings.{SettingsOf}
use Rattle.html5ever.specs.Tokenizer.{Tokenizing, StandsAt, ReadsOn, rules_of, state_at_end}
use Rattle.markup5ever.specs.NamedReferences.{NamedReference}

-- what a printing sink makes of what it is sent
abbrev pub printer_means : Means Printer Output (Unit {0})
printer_means = record {
  state = λ sink. sink.output;
  step = output_step;
  reply = output_reply;
  foreign = output_foreign;
  finish = λ output. output;
  faulted = output_faulted;
  end_faulted = λ output. output;
}

-- an output where these bytes come before its lines
abbrev pub after_bytes : List ℕ → Output → Output
after_bytes bytes output = record output { lines = bytes ++ output.lines }

-- a tokenizer where these bytes come before what its sink's output has
abbrev pub after_written : List ℕ → Tokenizing Printer → Tokenizing Printer
after_written bytes t = record t { sink = record t.sink { output = after_bytes bytes t.sink.output } }

-- the output where the input ends here
abbrev pub output_at_end : Tokenizing Printer → Output
output_at_end t = state_at_end printer_means t.rules t.position t.sink.output []

-- a front of the output was written, and the output has the rest
pub record WritesFront (before after : Option (List ℕ)) (output left : Output) : Type 0 where
  pub front : List ℕ
  pub written : Appends before after front
  pub parts : output ≡ after_bytes front left

-- the tokenizer read on, and a front of what its output would have had was written
pub record PrintsOn (before after : Option (List ℕ)) (old new : Tokenizing Printer) (more : List ℕ) : Type 0 where
  pub front : List ℕ
  pub written : Appends before after front
  pub reads : ReadsOn printer_means old (after_written front new) more

-- from wherever the tokenizer stood, a prefix of the output after the whole reading was written, and not all of it
abbrev pub PrintsShort : Option (List ℕ) → Option (List ℕ) → Tokenizing Printer → List ℕ → Type 0
PrintsShort before after old more =
    (K : Start) (output : Output) (text : List ℕ) → StandsAt printer_means old K output text
    → AppendsBeginning before after (state_at_end printer_means old.rules K output (text ++ more)).lines

-- the printed lines of the reading of a text by a table, where the text's bytes are given. Neither the cut nor the table that the
-- settings say is in it.
unfoldable pub printed_reading : SettingsOf → List NamedReference → List ℕ → List ℕ
printed_reading settings references bytes =
    printed (all_messages printer_means (rules_of settings.opts references) (start_of settings.opts) (blank_output settings.foreign) (chars bytes))

-- the known bytes of a reader and a writer round a call: what was unread before it and is left after it, what was written
-- before it and is after it
pub record Traffic : Type 0 where
  pub unread : Option (List ℕ)
  pub left : Option (List ℕ)
  pub written : Option (List ℕ)
  pub after : Option (List ℕ)

-- the traffic of a reader and a writer, each before the call and after it
abbrev pub traffic_of : {R W : Type 0} → (R → Option (List ℕ)) → (W → Option (List ℕ)) → R → R → W → W → Traffic
traffic_of remaining contents reader reader_after writer writer_after = record {
  unread = remaining reader;
  left = remaining reader_after;
  written = contents writer;
  after = contents writer_after;
}

-- the reader was read to its end, what it gave is UTF-8, and what was written is its printed reading
pub record PrintsReading (settings : SettingsOf) (references : List NamedReference) (known : Traffic) : Type 0 where
  pub bytes : List ℕ
  pub consumed : Consumes known.unread known.left bytes
  pub at_end : IsAtEnd known.left
  pub utf8 : IsUtf8 bytes
  pub printed : Appends known.written known.after (printed_reading settings references bytes)

-- the same by items: what was written are the lines of what the items of the text tell, and of what its end tells
pub record PrintsItems (settings : SettingsOf) (references : List NamedReference) (known : Traffic) : Type 0 where
  pub bytes : List ℕ
  pub consumed : Consumes known.unread known.left bytes
  pub at_end : IsAtEnd known.left
  pub utf8 : IsUtf8 bytes
  pub tells : List Message
  pub ends : List Message
  pub items : Items printer_means (rules_of settings.opts references) (start_of settings.opts) (blank_output settings.foreign) (chars bytes) tells ends
  pub printed : Appends known.written known.after (printed (tells ++ ends))

-- the same as the printed reading, but only a prefix was written
pub record PrintsBeginning (settings : SettingsOf) (references : List NamedReference) (known : Traffic) : Type 0 where
  pub bytes : List ℕ
  pub consumed : Consumes known.unread known.left bytes
  pub at_end : IsAtEnd known.left
  pub utf8 : IsUtf8 bytes
  pub printed : AppendsBeginning known.written known.after (printed_reading settings references bytes)

-- the reader was read to its end, what it gave is no UTF-8, and nothing was written
pub record PrintsNothing (known : Traffic) : Type 0 where
  pub bytes : List ℕ
  pub consumed : Consumes known.unread known.left bytes
  pub at_end : IsAtEnd known.left
  pub no_utf8 : ¬ IsUtf8 bytes
  pub kept : Keeps known.written known.after
