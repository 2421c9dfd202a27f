-- The tokens of a page, printed a line each as they come.
use Rattle.std.specs.Prelude.{ℕ, Bool, true, false, not, nat_eq, List, [], ◌∷◌, ◌++◌, Option}
use Rattle.std.specs.Str.{chars}
use Rattle.devices.specs.Printing.{Printing}
use Rattle.html5ever.specs.Tokenizer.{rules_of}
use Rattle.html5ever_interface.specs.Options.{default_options}
use Rattle.html5ever_interface.specs.Sink.{Means, Message, stepped}
use Rattle.html5reading.specs.Reading.{all_messages}
use Rattle.html5reading.specs.Start.{start_of}
use Rattle.markup5ever.specs.NamedReferences.{NamedReference}
use Rattle.html5ever_interface.specs.Token.{Told, is_text}
use Rattle.html5programs.specs.Fronts.{front_named, in_front}
use Rattle.html5sinks.specs.Pausing.{pausing_reply}
use Rattle.token_printer.specs.Output.{Output, added_by, open_after, text_closing}

-- the printer, whether a text is open in its last line, the name in front of lines, and how many tokens could not be printed
pub record LinePrinter (W : Type 0) : Type 0 where
  pub printer : Printing W
  pub in_text : Bool
  pub front : Option (List ℕ)
  pub faults : ℕ

-- what was printed, whether a text is open in the last line, and the name in front of lines
pub record TokenReading : Type 0 where
  pub lines : List ℕ
  pub in_text : Bool
  pub front : Option (List ℕ)

-- where a text is open in a line, or none is, and nothing was printed yet
abbrev pub line_output : Bool → Output
line_output in_text = record { lines = []; in_text = in_text; foreign = false }

-- when no text is open
abbrev pub lines_started : {W : Type 0} → Printing W → Option (List ℕ) → LinePrinter W
lines_started printer front = record { printer = printer; in_text = false; front = front; faults = 0 }

-- the lines that were printed
abbrev pub lines_of : {W : Type 0} → LinePrinter W → TokenReading
lines_of p = record { lines = p.printer.printed; in_text = p.in_text; front = p.front }

-- where a text that was open has ended
abbrev pub tokens_closed : TokenReading → TokenReading
tokens_closed s = record s { lines = s.lines ++ text_closing s.in_text; in_text = false }

-- where a file of this name is next: a text that the file before it left open ends
abbrev pub tokens_named : List ℕ → TokenReading → TokenReading
tokens_named file s = record (tokens_closed s) { front = front_named file s.front }

-- ---- what a token adds to the lines, with the text in front of a line

-- a byte, after it when no line has begun
abbrev pub byte_added : List ℕ → Bool → ℕ → List ℕ
byte_added front true byte = byte ∷ []
byte_added front false byte = front ++ byte ∷ []

-- bytes with it in front of each of their lines, where a line has begun or not
unfoldable pub lines_added : List ℕ → Bool → List ℕ → List ℕ
lines_added front begun [] = []
lines_added front begun (byte ∷ bytes) = byte_added front begun byte ++ lines_added front (not (nat_eq byte 10)) bytes

-- what was printed of a token, with it in front of each line
abbrev pub text_named : List ℕ → Bool → List ℕ → List ℕ
text_named front in_text [] = []
text_named front true (byte ∷ bytes) = byte ∷ bytes
text_named front false (byte ∷ bytes) = front ++ byte ∷ bytes

abbrev pub token_named : List ℕ → Bool → Bool → List ℕ → List ℕ
token_named front in_text true printed = text_named front in_text printed
token_named front in_text false printed = lines_added front in_text printed

unfoldable pub token_added : List ℕ → Bool → Told → ℕ → List ℕ
token_added front in_text told line = token_named front in_text (is_text told) (added_by in_text told line)

unfoldable pub tokens_step : TokenReading → Told → ℕ → TokenReading
tokens_step s told line =
    record s { lines = s.lines ++ token_added (in_front s.front) s.in_text told line; in_text = open_after s.in_text told }

-- what a sink of lines makes of what it is sent
abbrev pub token_lines : {X : Type 0} → (X → TokenReading) → Means X TokenReading (Unit {0})
token_lines state = record {
  state = state;
  step = tokens_step;
  reply = λ s told line. pausing_reply told;
  foreign = λ s. false;
  finish = λ s. s;
  faulted = λ s told line. s;
  end_faulted = λ s. s;
}

-- the messages of a page whose bytes are given, as such a sink is sent them
unfoldable pub tokens_page : List NamedReference → TokenReading → List ℕ → List Message
tokens_page references s bytes =
    all_messages (token_lines (λ s. s)) (rules_of default_options references) (start_of default_options) s (chars bytes)

-- the lines after some messages
unfoldable pub tokens_printed : TokenReading → List Message → TokenReading
tokens_printed s told = stepped tokens_step s told
