-- What a sink knows of the places of the tokens that it is sent.
use Rattle.std.specs.Prelude.{ℕ, Bool, true, false, List, [], ◌∷◌, ◌++◌, string_bytes, if◌then◌else◌}
use Rattle.html5ever_interface.specs.Sink.{Means}
use Rattle.html5ever_interface.specs.Token.{Told, told_by}
use Rattle.html5ever_interface.specs.Token.Told.{Text, Error, Tag, Comment, Instruction, Doctype}
use Rattle.html5places.specs.declared.places.Places.{Places}
use Rattle.html5places.specs.declared.placing.PlacedToken.{PlacedToken}
use Rattle.html5sinks.specs.Replies.{standard_reply}
use Rattle.html5sinks.specs.Runs.{reply_where_tag}

-- a token with the run of text before it, the line that was reached, and where they stand
pub record Placed : Type 0 where
  pub run : List ℕ
  pub token : Told
  pub line : ℕ
  pub places : Places

-- the text that no token has ended yet, and places in the text, in bytes from its first
pub record Marks : Type 0 where
  pub run : List ℕ
  -- where the run begins: after the last token that ended one
  pub text : ℕ
  -- where the last `<` stands that may have begun markup
  pub begun : ℕ
  -- where the last character begins, and where it ends
  pub from : ℕ
  pub to : ℕ

-- at the first byte of a text
abbrev pub no_marks : Marks
no_marks = record { run = []; text = 0; begun = 0; from = 0; to = 0 }

-- whether a token is written from a `<` on
abbrev pub is_markup : Told → Bool
is_markup (Tag tag) = true
is_markup (Comment text) = true
is_markup (Instruction text) = true
is_markup (Doctype doctype) = true
is_markup other = false

-- Where a token stands that the last character tells, with the run before it. Markup begins at its `<`; an error, a NUL and the end
-- stand where that character does, and an error has no run.
abbrev pub places_of : Marks → Told → Places
places_of s (Error message) = record { text = s.from; begin = s.from; end = s.to }
places_of s other = record { text = s.text; begin = if is_markup other then s.begun else s.from; end = s.to }

abbrev pub placed_of : Marks → Told → ℕ → Placed
placed_of s (Error message) line = record { run = []; token = Error message; line = line; places = places_of s (Error message) }
placed_of s other line = record { run = s.run; token = other; line = line; places = places_of s other }

-- a text joins the run, and any other token but an error ends it
abbrev pub marks_after : Marks → Told → Marks
marks_after s (Text text) = record s { run = s.run ++ text }
marks_after s (Error message) = s
marks_after s other = record s { run = []; text = s.to }

-- ---- the sink

-- a token as kept until it is handed on
abbrev pub placed_token : {Z : Type 0} → PlacedToken Z → Placed
placed_token p = record { run = string_bytes p.run; token = told_by p.token; line = p.line_number; places = p.places }

-- a sink that keeps tokens with their places: those that were not taken yet, and how often it found no memory
pub record PlacingSink (X : Type 0) : Type 0 where
  pub handler : X
  pub marks : Marks
  pub faults : ℕ

-- its state
pub record Placing (S : Type 0) : Type 0 where
  pub handler : S
  pub marks : Marks

-- one more token waits
abbrev pub waits : List Placed → Placed → List Placed
waits tokens placed = tokens ++ placed ∷ []

abbrev pub placing_of : {X S : Type 0} → (X → S) → PlacingSink X → Placing S
placing_of state s = record { handler = state s.handler; marks = s.marks }

module _ {S : Type 0} where
  -- all but texts are kept
  abbrev pub handler_after : (S → Placed → S) → Placing S → Told → ℕ → S
  handler_after step s (Text text) line = s.handler
  handler_after step s other line = step s.handler (placed_of s.marks other line)

  abbrev pub placed_step : (S → Placed → S) → Placing S → Told → ℕ → Placing S
  placed_step step s told line = record { handler = handler_after step s told line; marks = marks_after s.marks told }

  -- what it makes of what it is sent. It replies as the standard's elements ask, and content is never foreign.
  abbrev pub placed_means : {X : Type 0} → (X → S) → (S → Placed → S) → Means (PlacingSink X) (Placing S) (Unit {0})
  placed_means state step = record {
    state = placing_of state;
    step = placed_step step;
    reply = λ s told line. reply_where_tag standard_reply told;
    foreign = λ s. false;
    finish = λ s. s;
    faulted = λ s told line. s;
    end_faulted = λ s. s;
  }

-- the tokens that wait in the sink are their own state
abbrev pub kept : List Placed → List Placed
kept tokens = tokens
