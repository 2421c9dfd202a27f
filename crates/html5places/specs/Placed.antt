-- Where each token of a text stands.
--
-- The text is read from a start, and the standard's elements choose how the text after a tag is read. What a character tells stands at that
-- character: a tag at its `>`, an error at the character that is wrong or that decides it. The token begins where its `<` stands. All text
-- told between two tokens is one run; it stands from where the first token ends up to where the second begins, as source text.
use Rattle.std.specs.Prelude.{ℕ, ◌+◌, ◌&&◌, not, Bool, true, false, List, [], ◌∷◌, ◌++◌, length, ◌==◌, encode_utf8, if◌then◌else◌}
use Rattle.std.specs.List.{list_any}
use Rattle.html5ever_interface.specs.Sink.{Means, Message}
use Rattle.html5ever_interface.specs.Token.{Told}
use Rattle.html5ever_interface.specs.Token.Told.{Error, Text}
use Rattle.html5feed.specs.Beginning.{is_after_less_than}
use Rattle.html5feed.specs.Feed.{told_beyond, told_at_end}
use Rattle.html5reading.specs.Reading.{start_after}
use Rattle.html5reading.specs.Start.{Open, Rules, Start}
use Rattle.html5places.specs.Marks.{Marks, Placed, marks_after, no_marks, placed_of}
use Rattle.html5sinks.specs.Replies.{standard_reply}
use Rattle.html5sinks.specs.Runs.{reply_where_tag}

-- a sink that does nothing but reply as the standard's elements ask
abbrev pub standard : Means (Unit {0}) (Unit {0}) (Unit {0})
standard = record {
  state = λ s. s;
  step = λ s told line. s;
  reply = λ s told line. reply_where_tag standard_reply told;
  foreign = λ s. false;
  finish = λ s. s;
  faulted = λ s told line. s;
  end_faulted = λ s. s;
}

-- what is handed on of a message
abbrev pub handed : Marks → Told → ℕ → List Placed
handed s (Text text) line = []
handed s other line = placed_of s other line ∷ []

-- of some messages that a character tells
unfoldable pub all_handed : Marks → List Message → List Placed
all_handed s [] = []
all_handed s (m ∷ M) = handed s m.token m.line ++ all_handed (marks_after s m.token) M

unfoldable pub marks_after_all : Marks → List Message → Marks
marks_after_all s [] = s
marks_after_all s (m ∷ M) = marks_after_all (marks_after s m.token) M

-- the next character is this one, and then the end
abbrev pub at_character : Marks → ℕ → Marks
at_character s c = record s { from = s.to; to = s.to + length (encode_utf8 c) }

abbrev pub at_end : Marks → Marks
at_end s = record s { from = s.to }

-- markup begins at the last character, if it is a `<` that may begin some
abbrev pub begun_where : Bool → Marks → Marks
begun_where true s = record s { begun = s.from }
begun_where false s = s

abbrev pub begun_by : Open → Marks → Marks
begun_by opened s = begun_where (is_after_less_than opened) s

module _ (rules : Rules) (K : Start) where
  -- what the character c tells, after the text before it
  abbrev pub told_at : List ℕ → ℕ → List Message
  told_at before c = told_beyond standard rules K tt before (c ∷ [])

  -- the marks after that
  abbrev pub marks_past : Marks → List ℕ → ℕ → Marks
  marks_past s before c =
      begun_by (start_after standard rules K tt (before ++ c ∷ [])).opened (marks_after_all (at_character s c) (told_at before c))

  -- the marks after the characters of a text, with the text and the marks before it
  unfoldable pub marks_from : Marks → List ℕ → List ℕ → Marks
  marks_from s before [] = s
  marks_from s before (c ∷ text) = marks_from (marks_past s before c) (before ++ c ∷ []) text

  -- the tokens that these characters tell, and those that the end tells
  unfoldable pub placed_from : Marks → List ℕ → List ℕ → List Placed
  placed_from s before [] = []
  placed_from s before (c ∷ text) =
      all_handed (at_character s c) (told_at before c) ++ placed_from (marks_past s before c) (before ++ c ∷ []) text

  abbrev pub end_from : Marks → List ℕ → List Placed
  end_from s before = all_handed (at_end s) (told_at_end standard rules K tt before)

-- where a reading begins: how the text is read on from there, and the marks there
pub record Beginning : Type 0 where
  pub start : Start
  pub marks : Marks

-- at the first byte of a text
abbrev pub at_first_byte : Start → Beginning
at_first_byte K = record { start = K; marks = no_marks }

module _ (rules : Rules) (B : Beginning) where
  -- the marks after a text
  abbrev pub marks_of : List ℕ → Marks
  marks_of text = marks_from rules B.start B.marks [] text

  -- the tokens that the characters of a text tell, after the text before it, and those that the end tells after a text
  abbrev pub placed_by : List ℕ → List ℕ → List Placed
  placed_by before text = placed_from rules B.start (marks_of before) before text

  abbrev pub placed_at_end : List ℕ → List Placed
  placed_at_end text = end_from rules B.start (marks_of text) text

-- all tokens of a text but its texts, each with the run before it and where they stand
abbrev pub placed_tokens : Rules → Start → List ℕ → List Placed
placed_tokens rules K text = placed_by rules (at_first_byte K) [] text ++ placed_at_end rules (at_first_byte K) text

-- a handler's state after it was handed these
unfoldable pub handed_on : {S : Type 0} → (S → Placed → S) → S → List Placed → S
handed_on step s [] = s
handed_on step s (p ∷ placed) = handed_on step (step s p) placed

abbrev pub is_error : Told → Bool
is_error (Error message) = true
is_error other = false

-- whether a token other than an error is among these
abbrev pub has_token : List Placed → Bool
has_token placed = list_any (λ p. not (is_error p.token)) placed

-- ---- how places lie

-- whether the run before each token but an error begins where the last such token ended, and that before the first one at this byte
unfoldable pub follow : ℕ → List Placed → Bool
follow from [] = true
follow from (p ∷ placed) = if is_error p.token then follow from placed else ((p.places.text == from) && follow p.places.end placed)
