-- A page that is read with the places of its tokens as its bytes arrive, and what each call makes of it.
use Rattle.std.specs.Prelude.{◌≡◌, ◌≢◌, ◌⊎◌, ◌-◌, ℕ, Bool, true, false, List, [], ◌++◌, length, nat_le, Option, Some}
use Rattle.std.specs.Str.{IsUtf8, IsValidUpTo, chars}
use Rattle.html5placed.specs.PlacedRecords.{PlacedWriting, placed_records, waiting}
use Rattle.html5places.specs.Marks.{Placed}
use Rattle.html5places.specs.Placed.{at_first_byte, placed_by, placed_tokens}
use Rattle.html5places.specs.Readers.{DetachedReaderOf, Reading, StandsAfter, reader_with}
use Rattle.html5reading.specs.Start.{Rules, Start}
use Rattle.html5session.specs.declared.error.SessionError.{SessionError}
use Rattle.html5session.specs.declared.error.SessionError.TheVariants.{Memory, NotUtf8, Cut, Waiting, ItemOpen, Over}
use Rattle.markup5ever.specs.NamedReferences.{NamedReference}
use Rattle.utf8_pieces.specs.Pieces.{Decoding, IsNeverUtf8, place_after}

-- what contracts see of a session
pub record PlacedSessionOf : Type 0 where
  -- the table of named references
  pub references : List NamedReference
  -- the reader between two calls
  pub reader : DetachedReaderOf
  -- what was written
  pub records : PlacedWriting
  -- the bytes that may begin a character, and how many bytes came before them
  pub decoder : Decoding
  -- where those bytes are that were last said to be no UTF-8
  pub error_at : Option ℕ
  -- how many bytes may be held
  pub limit : ℕ

-- nothing more is read: a call failed, or the page has ended
abbrev pub is_over : PlacedSessionOf → Bool
is_over s = s.reader.over

-- how the page is read on
abbrev pub reading_with : DetachedReaderOf → List NamedReference → Reading
reading_with reader references = (reader_with reader references).reading

abbrev pub reading_in : PlacedSessionOf → Reading
reading_in s = reading_with s.reader s.references

-- how many bytes are held if this many more come: those read since the last token ended, and those that wait, as a u64 counts
abbrev pub held_with : PlacedSessionOf → ℕ → ℕ
held_with s more = place_after (place_after (s.reader.marks.to - s.records.passed) (length (waiting s.records))) more

-- they are within the limit
abbrev pub has_room : PlacedSessionOf → ℕ → Bool
has_room s more = nat_le (held_with s more) s.limit

-- ---- where a session stands

-- The page so far is these bytes, and its reading began at K. All of it was read but the bytes that are held, which may begin a character.
-- What was written is the records of the tokens that this text tells.
pub record StandsIn (s : PlacedSessionOf) (K : Start) (page : List ℕ) : Type 0 where
  pub text : List ℕ
  pub whole : page ≡ text ++ s.decoder.held
  pub utf8 : IsUtf8 text
  pub place : s.decoder.taken ≡ place_after 0 (length text)
  pub reader : StandsAfter (reading_in s) (at_first_byte K) (chars text)
  pub written : s.records.bytes ≡ placed_records (placed_by (reading_in s).rules (at_first_byte K) [] (chars text))

-- the page is a text, and what was written is the records of all its tokens
pub record Written (rules : Rules) (K : Start) (page written : List ℕ) : Type 0 where
  pub utf8 : IsUtf8 page
  pub records : written ≡ placed_records (placed_tokens rules K (chars page))

-- what was written is the records of the first tokens of a text that the page begins with
pub record WrittenFirst (rules : Rules) (K : Start) (page written : List ℕ) : Type 0 where
  pub text : List ℕ
  pub rest : List ℕ
  pub whole : page ≡ text ++ rest
  pub utf8 : IsUtf8 text
  pub front : List Placed
  pub back : List Placed
  pub tokens : placed_tokens rules K (chars text) ≡ front ++ back
  pub records : written ≡ placed_records front

-- the page was read up to a place
pub record StandsBefore (s : PlacedSessionOf) (K : Start) (page : List ℕ) (place : ℕ) : Type 0 where
  pub front : List ℕ
  pub rest : List ℕ
  pub whole : page ≡ front ++ rest
  pub stands : StandsIn s K front
  pub place_is : place ≡ place_after 0 (length front)

-- ---- a feed

-- wherever the session stood, it stands after these bytes
abbrev pub Feeds : PlacedSessionOf → PlacedSessionOf → List ℕ → Type 0
Feeds old new bytes = (K : Start) (page : List ℕ) → StandsIn old K page → StandsIn new K (page ++ bytes)

-- the reading stopped within what the page tells, and the session is over
pub record LosesPage (old new : PlacedSessionOf) (bytes : List ℕ) : Type 0 where
  pub over : is_over new ≡ true
  pub written : (K : Start) (page : List ℕ) → StandsIn old K page → WrittenFirst (reading_in old).rules K (page ++ bytes) new.records.bytes

-- whatever follows them, the bytes are not UTF-8: those before the place were read, and their place is reported
pub record SaysFault (old new : PlacedSessionOf) (bytes : List ℕ) (place : ℕ) : Type 0 where
  pub refused : IsNeverUtf8 (old.decoder.held ++ bytes)
  pub valid_len : ℕ
  pub valid : IsValidUpTo (old.decoder.held ++ bytes) valid_len
  pub place_is : place ≡ place_after old.decoder.taken valid_len
  pub reads : (K : Start) (page : List ℕ) → StandsIn old K page → StandsBefore new K (page ++ bytes) place
  pub said : new.error_at ≡ Some place
  pub going_on : is_over new ≡ false

-- a session that was over is as it was
pub record StaysOver (old new : PlacedSessionOf) : Type 0 where
  pub over : is_over old ≡ true
  pub unchanged : new ≡ old

-- when each error of a feed comes, and what it leaves
abbrev pub FeedRefused : PlacedSessionOf → PlacedSessionOf → List ℕ → SessionError → Type 0
FeedRefused old new bytes Memory = (new ≡ old) ⊎ LosesPage old new bytes
FeedRefused old new bytes (NotUtf8 place) = SaysFault old new bytes place
FeedRefused old new bytes Cut = ⊥
FeedRefused old new bytes Waiting = ⊥
FeedRefused old new bytes ItemOpen = ⊥
FeedRefused old new bytes Over = StaysOver old new

-- ---- an end

-- wherever the session stood, all was written
abbrev pub Ends : PlacedSessionOf → PlacedSessionOf → Type 0
Ends old new = (K : Start) (page : List ℕ) → StandsIn old K page → Written (reading_in old).rules K page new.records.bytes

-- the page ends within a character
pub record EndsWithin (old new : PlacedSessionOf) : Type 0 where
  pub held : old.decoder.held ≢ []
  pub unchanged : new ≡ old

-- when each error of an end comes, and what it leaves
abbrev pub EndRefused : PlacedSessionOf → PlacedSessionOf → SessionError → Type 0
EndRefused old new Memory = LosesPage old new []
EndRefused old new (NotUtf8 place) = ⊥
EndRefused old new Cut = EndsWithin old new
EndRefused old new Waiting = ⊥
EndRefused old new ItemOpen = ⊥
EndRefused old new Over = StaysOver old new
