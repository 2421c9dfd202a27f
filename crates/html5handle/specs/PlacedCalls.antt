-- What each call makes of a page that is read with places, where a handle is of one.
use Rattle.std.specs.Prelude.{◌≡◌, ◌≢◌, ◌↔◌, ◌⊎◌, ◌-◌, ◌^◌, ℕ, true, false, List, [], ◌++◌, length, take, drop, min, Option, None, Some}
use Rattle.std.specs.Str.{IsUtf8}
use Rattle.html5handle.specs.Said.{are_named, are_placed, options_said}
use Rattle.html5handle.specs.Slots.{WhereOpen}
use Rattle.html5handle.specs.declared.options.Options.{Options}
use Rattle.html5ever.specs.Tokenizer.{rules_of}
use Rattle.html5entities.specs.Standard.{standard_list}
use Rattle.html5placed.specs.PlacedRecords.{WritesOn, after_taking, nothing_written, waiting}
use Rattle.html5placed.specs.PlacedSessions.{EndRefused, EndsWithin, Ends, FeedRefused, Feeds, PlacedSessionOf, SaysFault, StandsIn, has_room, is_over, reading_in}
use Rattle.html5reading.specs.Start.{start_of}
use Rattle.html5session.specs.declared.error.SessionError.TheVariants.{Memory}
use Rattle.html5table.specs.Listed.{entries_in}
use Rattle.markup5ever.specs.NamedReferences.{NamedReference, table_of}

-- it stands at the start of a page, by these options, reads references by this table, and may hold this many bytes
pub record StartsPlacedBy (references : List NamedReference) (most : ℕ) (s : PlacedSessionOf) (name : List ℕ) (o : Options) : Type 0 where
  pub stands : StandsIn s (start_of (options_said o name)) []
  pub rules : (reading_in s).rules ≡ rules_of (options_said o name) references
  pub records : s.records ≡ nothing_written
  pub limit : s.limit ≡ most
  pub going_on : is_over s ≡ false
  pub named : are_named o ≡ true
  pub utf8 : IsUtf8 name

-- a new page, which reads references by the standard's names, and has no limit
abbrev pub StartsPlaced : PlacedSessionOf → List ℕ → Options → Type 0
StartsPlaced s name o = StartsPlacedBy (table_of (entries_in standard_list)) (2 ^ 64 - 1) s name o

abbrev pub IsPlacedStart : Option PlacedSessionOf → List ℕ → Options → Type 0
IsPlacedStart None name o = ⊥
IsPlacedStart (Some s) name o = StartsPlaced s name o

-- another page is at its start, by these options, and by the table and the limit of the page before it; or nothing changed
pub record PlacedRestartSays (old new : PlacedSessionOf) (name : List ℕ) (o : Options) (status : ℕ) : Type 0 where
  pub done : status ≡ 0 → StartsPlacedBy old.references old.limit new name o
  pub refused : status ≢ 0 → new ≡ old
  pub bad_option : (status ≡ 9) ↔ (are_placed o ≡ false)
  pub not_utf8 : (status ≡ 4) ↔ ((are_placed o ≡ true) × ¬ (IsUtf8 name))
  pub only : (status ≡ 0) ⊎ (status ≡ 3) ⊎ (status ≡ 4) ⊎ (status ≡ 9)

-- the table of references and the limit are the same
pub record KeepsTable (old new : PlacedSessionOf) : Type 0 where
  pub references : new.references ≡ old.references
  pub limit : new.limit ≡ old.limit

pub record PlacedFeedSays (old new : PlacedSessionOf) (bytes : List ℕ) (status : ℕ) : Type 0 where
  pub done : status ≡ 0 → Feeds old new bytes
  pub going_on : status ≡ 0 → is_over new ≡ false
  pub no_memory : status ≡ 3 → FeedRefused old new bytes Memory
  pub not_utf8 : status ≡ 4 → (place : ℕ) × SaysFault old new bytes place
  pub limit : (status ≡ 14) ↔ ((is_over old ≡ false) × (has_room old (length bytes) ≡ false))
  pub over : (status ≡ 7) ↔ (is_over old ≡ true)
  -- at those two nothing changes
  pub unchanged : (status ≡ 7) ⊎ (status ≡ 14) → new ≡ old
  -- whatever the status is, the page is read on by the same rules, with the same table and limit
  pub rules : (reading_in new).rules ≡ (reading_in old).rules
  pub keeps : KeepsTable old new
  -- no records are taken, and more come after them
  pub records : WritesOn old.records new.records
  pub only : (status ≡ 0) ⊎ (status ≡ 3) ⊎ (status ≡ 4) ⊎ (status ≡ 7) ⊎ (status ≡ 14)

pub record PlacedEndSays (old new : PlacedSessionOf) (status : ℕ) : Type 0 where
  pub done : status ≡ 0 → Ends old new
  pub ended : status ≡ 0 → is_over new ≡ true
  pub no_memory : status ≡ 3 → EndRefused old new Memory
  pub cut : status ≡ 5 → EndsWithin old new
  pub over : (status ≡ 7) ↔ (is_over old ≡ true)
  pub unchanged : status ≡ 7 → new ≡ old
  -- another page begins with the same table and limit
  pub keeps : KeepsTable old new
  pub records : WritesOn old.records new.records
  pub only : (status ≡ 0) ⊎ (status ≡ 3) ⊎ (status ≡ 5) ⊎ (status ≡ 7)

-- the next bytes of the records that wait were copied, as many as there was room for, and dropped; nothing else changed
pub record PlacedTakeSays (old new : PlacedSessionOf) (room out : List ℕ) (n : ℕ) : Type 0 where
  pub count : n ≡ min (length room) (length (waiting old.records))
  pub copied : out ≡ take n (waiting old.records) ++ drop n room
  pub taken : new ≡ record old { records = after_taking old.records n }

-- ---- the same, of a handle that has such a page or none

abbrev pub PlacedRestarts : Option PlacedSessionOf → Option PlacedSessionOf → List ℕ → Options → ℕ → Type 0
PlacedRestarts old new name o status = WhereOpen (λ s t. PlacedRestartSays s t name o status) (Unit {0}) old new

abbrev pub PlacedFeeds : Option PlacedSessionOf → Option PlacedSessionOf → List ℕ → ℕ → Type 0
PlacedFeeds old new bytes status = WhereOpen (λ s t. PlacedFeedSays s t bytes status) (Unit {0}) old new

abbrev pub PlacedEnds : Option PlacedSessionOf → Option PlacedSessionOf → ℕ → Type 0
PlacedEnds old new status = WhereOpen (λ s t. PlacedEndSays s t status) (Unit {0}) old new

abbrev pub PlacedTakes : Option PlacedSessionOf → Option PlacedSessionOf → List ℕ → List ℕ → ℕ → Type 0
PlacedTakes old new room out n = WhereOpen (λ s t. PlacedTakeSays s t room out n) (Unit {0}) old new

-- a page that may hold this many bytes
abbrev pub placed_limited : ℕ → PlacedSessionOf → PlacedSessionOf
placed_limited limit s = record s { limit = limit }
