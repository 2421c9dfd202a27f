-- What reading on makes of where a reader stands, and of a handler. `h` is the handler's state before, and `i` after.
use Rattle.std.specs.Prelude.{◌≡◌, ℕ, Bool, true, false, List, [], ◌∷◌, ◌++◌}
use Rattle.html5ever.specs.Tokenizer.{Tokenizing}
use Rattle.html5reading.specs.Reading.{start_after}
use Rattle.html5reading.specs.Start.{Rules, Start}
use Rattle.markup5ever.specs.BufferQueue.{TextQueue}
use Rattle.markup5ever.specs.NamedReferences.{NamedReference}
use Rattle.html5places.specs.Marks.{Marks, Placed, PlacingSink}
use Rattle.html5places.specs.Placed.{Beginning, handed_on, has_token, marks_of, placed_at_end, placed_by, standard}

-- how a text is read on: by which rules, from where, and with which marks
pub record Reading : Type 0 where
  pub rules : Rules
  pub position : Start
  pub marks : Marks

-- what contracts see of a reader
pub record ReaderOf : Type 0 where
  pub reading : Reading
  -- a call was refused, or the end was read
  pub over : Bool

-- what contracts see of a reader without its table
pub record DetachedReaderOf : Type 0 where
  -- whether error messages are exact
  pub exact : Bool
  pub position : Start
  pub marks : Marks
  pub over : Bool

-- the reader that goes on by this table
abbrev pub reader_with : DetachedReaderOf → List NamedReference → ReaderOf
reader_with d references = record {
  reading = record { rules = record { exact = d.exact; references = references }; position = d.position; marks = d.marks };
  over = d.over;
}

-- the text before, from where it began, led to where the reading stands
pub record StandsAfter (r : Reading) (B : Beginning) (before : List ℕ) : Type 0 where
  pub position : r.position ≡ start_after standard r.rules B.start tt before
  pub marks : r.marks ≡ marks_of r.rules B before

-- a handler was handed a prefix of these tokens
pub record IsPart {S : Type 0} (step : S → Placed → S) (h : S) (placed : List Placed) (i : S) : Type 0 where
  pub front : List Placed
  pub back : List Placed
  pub parts : placed ≡ front ++ back
  pub state : i ≡ handed_on step h front

module _ {S : Type 0} (step : S → Placed → S) where
  -- after the text before, a text was read, and the tokens that its characters tell were handed on
  pub record TextRead (old new : Reading) (h i : S) (B : Beginning) (before text : List ℕ) : Type 0 where
    pub stands : StandsAfter new B (before ++ text)
    pub handler : i ≡ handed_on step h (placed_by old.rules B before text)

  -- the same from wherever the reader stood
  abbrev pub Reads : Reading → Reading → S → S → List ℕ → Type 0
  Reads old new h i text = (B : Beginning) (before : List ℕ) → StandsAfter old B before → TextRead old new h i B before text

  -- the reading of a text stopped within what its characters tell
  abbrev pub StopsWithin : Reading → S → S → List ℕ → Type 0
  StopsWithin old h i text = (B : Beginning) (before : List ℕ) → StandsAfter old B before → IsPart step h (placed_by old.rules B before text) i

  -- the end was read, or stopped within what it tells
  abbrev pub ReadsEnd : Reading → S → S → Type 0
  ReadsEnd old h i = (B : Beginning) (before : List ℕ) → StandsAfter old B before → i ≡ handed_on step h (placed_at_end old.rules B before)

  abbrev pub StopsAtEnd : Reading → S → S → Type 0
  StopsAtEnd old h i = (B : Beginning) (before : List ℕ) → StandsAfter old B before → IsPart step h (placed_at_end old.rules B before) i

-- The part of a text that is read up to its first token: from wherever the reader stood, the text before the last character tells
-- errors alone.
abbrev pub HasNoTokenBefore : Reading → List ℕ → Type 0
HasNoTokenBefore old part =
    (B : Beginning) (before : List ℕ) → StandsAfter old B before
    → (front : List ℕ) (last : ℕ) → part ≡ front ++ last ∷ [] → has_token (placed_by old.rules B before front) ≡ false

-- and the last character tells a token
pub record HasTokenLast (rules : Rules) (B : Beginning) (before part : List ℕ) : Type 0 where
  pub front : List ℕ
  pub last : ℕ
  pub parts : part ≡ front ++ last ∷ []
  pub token : has_token (placed_by rules B (before ++ front) (last ∷ [])) ≡ true

abbrev pub EndsInToken : Reading → List ℕ → Type 0
EndsInToken old part = (B : Beginning) (before : List ℕ) → StandsAfter old B before → HasTokenLast old.rules B before part

-- ---- words of the private functions

-- a tokenizer whose sink places tokens
abbrev pub Reader : Type 0
Reader = Tokenizing (PlacingSink (List Placed))

-- whether these characters tell a token
abbrev pub TellsToken : Reading → List ℕ → Bool → Type 0
TellsToken old text told =
    (B : Beginning) (before : List ℕ) → StandsAfter old B before → told ≡ has_token (placed_by old.rules B before text)

-- between two calls nothing waits, in its sink or in its queue, and it goes by this table
pub record NothingWaits (t : Reader) (queue : TextQueue) (references : List NamedReference) : Type 0 where
  pub kept : t.sink.handler ≡ []
  pub queued : queue.text ≡ []
  pub not_failed : t.failed ≡ false
  pub not_ended : t.ended ≡ false
  pub table : t.rules.references ≡ references

-- how it reads on
abbrev pub reading_of : Reader → Reading
reading_of t = record { rules = t.rules; position = t.position; marks = t.sink.marks }
