-- "Preprocessing the input stream": the text that is read, and its lines. Each line break is one LF, and a byte order mark at the
-- start of the stream is gone.
use Rattle.std.specs.Prelude.{ℕ, ◌+◌, ◌-◌, ◌^◌, min, Bool, true, false, List, [], ◌∷◌, ◌==◌, ◌&&◌, ◌||◌, count_by, if◌then◌else◌}
use Rattle.html5reading.specs.Characters.{line_feed, carriage_return, byte_order_mark}
use Rattle.html5reading.specs.Start.{Input}

-- "Preprocessing the input stream": whether c is dropped if it is the first character after the start
abbrev pub drops_first : Input → ℕ → Bool
drops_first input c =
    (input.drops_byte_order_mark && (c == byte_order_mark)) || (input.after_carriage_return && (c == line_feed))

-- "Preprocessing the input stream": the text without such a first character
unfoldable pub without_dropped_first : Input → List ℕ → List ℕ
without_dropped_first input [] = []
without_dropped_first input (c ∷ X) = if drops_first input c then X else c ∷ X

-- "Preprocessing the input stream": each CR LF and each other CR is one LF, where `after_cr` says that a CR stands directly
-- before
unfoldable pub with_line_feeds : Bool → List ℕ → List ℕ
with_line_feeds after_cr [] = []
with_line_feeds after_cr (c ∷ X) =
    if c == carriage_return then line_feed ∷ with_line_feeds true X
    else if after_cr && (c == line_feed) then with_line_feeds false X
    else c ∷ with_line_feeds false X

-- "Preprocessing the input stream": what is read of a text
unfoldable pub normalised : Input → List ℕ → List ℕ
normalised input X = with_line_feeds false (without_dropped_first input X)

-- the highest line number
abbrev pub last_line : ℕ
last_line = 2 ^ 64 - 1

-- the line that `past` reaches: the characters up to the one in question, and that one
unfoldable pub line_after : Input → List ℕ → ℕ
line_after input past = min (input.line + count_by (λ c. c == line_feed) past) last_line

-- whether X ends with a CR, where `otherwise` stands for a text before it
unfoldable pub ends_with_carriage_return : Bool → List ℕ → Bool
ends_with_carriage_return otherwise [] = otherwise
ends_with_carriage_return otherwise (c ∷ X) = ends_with_carriage_return (c == carriage_return) X

-- how the characters after X come in
unfoldable pub input_after : Input → List ℕ → Input
input_after input [] = input
input_after input (c ∷ X) = record {
  line = line_after input (normalised input (c ∷ X));
  after_carriage_return = ends_with_carriage_return false (c ∷ X);
  drops_byte_order_mark = false;
}
