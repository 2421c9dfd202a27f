-- Slices of a text: what each of their characters tells, and how the text goes on after them. Vocabulary of proofs.
use Rattle.std.specs.Prelude.{ℕ, Bool, List, [], ◌∷◌, ◌++◌, map, if◌then◌else◌}
use Rattle.html5ever_interface.specs.Token.{Told, TagOf}
use Rattle.html5reading.specs.Start.{Open}

-- what is sent only when a later character, the last one of its own item, or the end decides it
pub record Late : Type 0 where
  pub token : Told
  -- how many characters before the place after the deciding one the token stands
  pub back : ℕ
  -- whether it stands at the character there, and not before it
  pub is_at : Bool
  -- whether it is text of that character, which is decided by itself
  pub is_held : Bool

-- what is sent at a character
pub data Cell : Type 0 where
  Says : List Told → Cell
  -- a tag is sent last, and the sink's reply chooses how the text goes on
  Ends : List Told → TagOf → Cell
  -- the character decides this, and ends the slice within another, of which this is open
  Returns : List Late → Open → Cell

-- how a text goes on after a slice
pub data Afterwards : Type 0 where
  -- first something is sent at the next character, and this is open
  Leaves : List Told → Open → Afterwards
  -- the next character decides what is sent before it, and then this is open. `EndOfInput` says what the end decides.
  Settles : List Late → Open → Afterwards
  -- after `<!` and the held text the next character begins no comment and no doctype. It asks the sink whether a CDATA section may
  -- begin there.
  Asks : List ℕ → Afterwards

-- characters of a text that are read as one, with what each of them tells
pub record Slice : Type 0 where
  -- what is sent at each character
  pub cells : List Cell
  pub afterwards : Afterwards

-- a slice of no character
abbrev pub no_character : Afterwards → Slice
no_character afterwards = record { cells = []; afterwards = afterwards }

-- the text ends within a slice
abbrev pub cut_off : Open → Slice
cut_off opened = no_character (Leaves [] opened)

-- a slice of one character
abbrev pub one_character : List Told → Open → Slice
one_character told opened = record { cells = Says told ∷ []; afterwards = Leaves [] opened }

-- a slice with a character in front
abbrev pub with_character : List Told → Slice → Slice
with_character told slice = record { cells = Says told ∷ slice.cells; afterwards = slice.afterwards }

-- a slice with some characters in front, each of which tells its own
abbrev pub with_run : (ℕ → List Told) → List ℕ → Slice → Slice
with_run tells run slice = record { cells = map (λ c. Says (tells c)) run ++ slice.cells; afterwards = slice.afterwards }

-- a character that tells nothing
abbrev pub silent : ℕ → List Told
silent c = []

-- the tokens, in order
abbrev pub tokens_of_late : List Late → List Told
tokens_of_late late = map (λ (l : Late). l.token) late

-- the longest run of characters of a kind with which a text begins
unfoldable pub run_of : (ℕ → Bool) → List ℕ → List ℕ
run_of is_kind [] = []
run_of is_kind (c ∷ text) = if is_kind c then c ∷ run_of is_kind text else []

-- the text after that run
unfoldable pub after_run : (ℕ → Bool) → List ℕ → List ℕ
after_run is_kind [] = []
after_run is_kind (c ∷ text) = if is_kind c then after_run is_kind text else c ∷ text

-- the longest run with which a text begins, where the kind is one of the run so far with the text before it
unfoldable pub run_while : (List ℕ → Bool) → List ℕ → List ℕ → List ℕ
run_while is_kind before [] = []
run_while is_kind before (c ∷ text) =
    if is_kind (before ++ c ∷ []) then c ∷ run_while is_kind (before ++ c ∷ []) text else []

-- the text after that run
unfoldable pub after_while : (List ℕ → Bool) → List ℕ → List ℕ → List ℕ
after_while is_kind before [] = []
after_while is_kind before (c ∷ text) =
    if is_kind (before ++ c ∷ []) then after_while is_kind (before ++ c ∷ []) text else c ∷ text
