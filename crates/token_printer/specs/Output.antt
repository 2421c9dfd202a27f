-- An output of printed lines, and what each token does to it.
use Rattle.std.specs.Prelude.{ℕ, Bool, true, false, List, [], ◌∷◌, ◌++◌, codes}
use Rattle.token_printer.specs.Printed.{quoted_bytes, printed_line}
use Rattle.html5sinks.specs.Pausing.{pausing_reply}
use Rattle.html5ever_interface.specs.Token.{Told, Reply}
use Rattle.html5ever_interface.specs.Token.Told.{Text}

pub record Output : Type 0 where
  -- the bytes printed so far
  pub lines : List ℕ
  -- the last line is a text's, and its quote is open
  pub in_text : Bool
  -- the answer to the question about foreign content
  pub foreign : Bool

-- an output, and how many tokens could not be printed on it
pub record Printer : Type 0 where
  pub output : Output
  pub faults : ℕ

-- an output with nothing printed
abbrev pub blank_output : Bool → Output
blank_output foreign = record { lines = []; in_text = false; foreign = foreign }

-- an output whose lines were taken off
abbrev pub without_lines : Output → Output
without_lines output = record output { lines = [] }

-- the answer about foreign content
abbrev pub output_foreign : Output → Bool
output_foreign output = output.foreign

-- what comes before the bytes of a text, where `in_text` says that a text is open
abbrev pub text_opening : Bool → List ℕ
text_opening true = []
text_opening false = codes "text \""

-- what comes before the line of another token
abbrev pub text_closing : Bool → List ℕ
text_closing true = codes "\"\n"
text_closing false = []

-- what a text adds to an output
unfoldable pub added_by_text : Bool → List ℕ → List ℕ
added_by_text in_text [] = []
added_by_text in_text (b ∷ bs) = text_opening in_text ++ quoted_bytes (b ∷ bs)

-- what a token adds to an output
unfoldable pub added_by : Bool → Told → ℕ → List ℕ
added_by in_text (Text text) line = added_by_text in_text text
added_by in_text other line = text_closing in_text ++ printed_line other line

-- whether a text is open after a token
unfoldable pub open_after : Bool → Told → Bool
open_after in_text (Text []) = in_text
open_after in_text (Text (b ∷ bs)) = true
open_after in_text other = false

unfoldable pub output_step : Output → Told → ℕ → Output
output_step p told line =
    record p { lines = p.lines ++ added_by p.in_text told line; in_text = open_after p.in_text told }

-- the reply is by the token alone
abbrev pub output_reply : Output → Told → ℕ → Reply (Unit {0})
output_reply p told line = pausing_reply told

-- a token that could not be printed leaves nothing
abbrev pub output_faulted : Output → Told → ℕ → Output
output_faulted p told line = p
