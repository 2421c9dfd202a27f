-- Sessions whose sink writes records.
use Rattle.std.specs.Prelude.{◌≡◌, ℕ, Bool, false, List, []}
use Rattle.html5ever.specs.Tokenizer.{StandsAt}
use Rattle.html5reading.specs.Start.{Start}
use Rattle.html5records.specs.Recording.{Recording, Recorded, recorded_means, taking, after_taking, with_foreign}
use Rattle.html5session.specs.Session.{SessionOf, is_over, tokenizer_of}

abbrev pub RecordSessionOf : Type 0
RecordSessionOf = SessionOf Recording

-- what was written of the page, and how many of its bytes were taken
abbrev pub recorded_by : RecordSessionOf → Recorded
recorded_by s = s.detached.sink.recorded

-- this many bytes of the records that wait were taken, and all else is as it was
abbrev pub after_session_takes : RecordSessionOf → ℕ → RecordSessionOf
after_session_takes s count = record s { detached = record s.detached { sink = after_taking s.detached.sink count } }

-- wherever the tokenizer stood, it stands there still, with this many bytes more taken
abbrev pub StandsOn : RecordSessionOf → RecordSessionOf → ℕ → Type 0
StandsOn old new count =
    (K : Start) (s : Recorded) (text : List ℕ) → StandsAt recorded_means (tokenizer_of old) K s text
    → StandsAt recorded_means (tokenizer_of new) K (taking s count) text

-- the session with another answer about foreign content
abbrev pub after_foreign : RecordSessionOf → Bool → RecordSessionOf
after_foreign s foreign = record s { detached = record s.detached { sink = with_foreign s.detached.sink foreign } }

-- the answer about foreign content is this one from here on, and all else is as it was
pub record SetsForeign (old new : RecordSessionOf) (foreign : Bool) : Type 0 where
  -- where more is read, it is read from the place that was reached, by that answer
  pub stands : is_over old ≡ false → StandsAt recorded_means (tokenizer_of new) old.detached.position (recorded_by new) []
  pub kept : new ≡ after_foreign old foreign
