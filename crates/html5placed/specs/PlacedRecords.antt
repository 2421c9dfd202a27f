-- Records that say where each token stands.
--
-- Each token has a record of its places, then the record of the run of text before it, and then its own. Those of the run and of the token
-- are as crate html5records writes them; the line of a run is not written. An empty run has no record.
use Rattle.std.specs.Prelude.{◌≡◌, ℕ, ◌+◌, List, [], ◌∷◌, ◌++◌, drop, if◌then◌else◌}
use Rattle.std.specs.List.{flat_map}
use Rattle.html5ever_interface.specs.Token.{Told}
use Rattle.html5ever_interface.specs.Token.Told.{Text}
use Rattle.html5places.specs.Marks.{Placed}
use Rattle.html5places.specs.Placed.{is_error}
use Rattle.html5places.specs.declared.places.Places.{Places}
use Rattle.html5records.specs.Records.{number, record_of}
use Rattle.markup5ever.specs.Lists.{BeginsWith}

-- the kind, and three numbers: where the run begins, where the token begins, and where it ends
unfoldable pub places_record : Places → List ℕ
places_record places = 10 ∷ number places.text ++ number places.begin ++ number places.end

-- a text with its end; an empty one has no record
unfoldable pub text_record : List ℕ → List ℕ
text_record [] = []
text_record (b ∷ text) = record_of (Text (b ∷ text)) 0

-- a token
unfoldable pub token_record : Told → ℕ → List ℕ
token_record (Text text) line = text_record text
token_record other line = record_of other line

-- a token with its places and the run before it
unfoldable pub placed_record : Placed → List ℕ
placed_record p = places_record p.places ++ text_record p.run ++ token_record p.token p.line

-- some of them, one after the other
unfoldable pub placed_records : List Placed → List ℕ
placed_records placed = flat_map placed_record placed

-- all that was ever written
pub record PlacedWriting : Type 0 where
  pub bytes : List ℕ
  -- how many of these bytes were taken
  pub taken : ℕ
  -- where the last token other than an error ended
  pub passed : ℕ

-- nothing was written
abbrev pub nothing_written : PlacedWriting
nothing_written = record { bytes = []; taken = 0; passed = 0 }

-- the bytes that wait: all but those that were taken
abbrev pub waiting : PlacedWriting → List ℕ
waiting w = drop w.taken w.bytes

-- this many bytes more were taken
abbrev pub after_taking : PlacedWriting → ℕ → PlacedWriting
after_taking w count = record w { taken = w.taken + count }

-- what a token makes of it
abbrev pub placed_step : PlacedWriting → Placed → PlacedWriting
placed_step w p = record {
  bytes = w.bytes ++ placed_record p;
  taken = w.taken;
  passed = if is_error p.token then w.passed else p.places.end;
}

-- no byte more was taken, and what was written stays, with more after it: so what is taken next goes on
pub record WritesOn (old new : PlacedWriting) : Type 0 where
  pub taken : new.taken ≡ old.taken
  pub bytes : BeginsWith new.bytes old.bytes
