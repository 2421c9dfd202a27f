-- What each call of the tokenizer makes of the session that a handle is of. A handle has none where it is closed, or has a cleaner.
use Rattle.std.specs.Prelude.{◌≡◌, ◌≢◌, ◌↔◌, ◌⊎◌, ◌-◌, ◌^◌, ℕ, Bool, true, false, List, [], ◌++◌, length, take, drop, min, Option, None, Some, is_some}
use Rattle.std.specs.Str.{IsUtf8}
use Rattle.html5handle.specs.Said.{are_named, are_recorded, options_said, replies_said, state_said}
use Rattle.html5handle.specs.PlacedCalls.{IsPlacedStart}
use Rattle.html5handle.specs.Slots.{WhereOpen, place_in, placed_of, session_of}
use Rattle.html5handle.specs.declared.opening.OpenError.{OpenError}
use Rattle.html5handle.specs.declared.opening.Reading.{Reading}
use Rattle.html5handle.specs.declared.opening.OpenError.TheVariants as opening
use Rattle.html5handle.specs.declared.options.Options.{Options}
use Rattle.html5handle.specs.declared.slot.PageSlot.{PageSlot}
use Rattle.html5placed.specs.PlacedSessions.{PlacedSessionOf}
use Rattle.html5placed.specs.PlacedSessions as placed_page
use Rattle.html5records.specs.Recording.{recorded_means, none_recorded, nothing_recorded, waiting, WritesOn}
use Rattle.html5records.specs.declared.record_sink.Replies.{Replies}
use Rattle.html5ever.specs.Tokenizer.{StandsAt, rules_of}
use Rattle.html5ever_interface.specs.Options.{options_of}
use Rattle.html5ever_interface.specs.declared.states.State.{State}
use Rattle.html5reading.specs.Start.{start_of}
use Rattle.html5entities.specs.Standard.{standard_list}
use Rattle.html5ever_interface.specs.Token.{Reply}
use Rattle.html5ever_interface.specs.Token.Reply.{KeepOn, RunScript, SwitchEncoding}
use Rattle.html5records.specs.declared.record_sink.PausedAt.{PausedAt}
use Rattle.html5records.specs.declared.record_sink.PausedAt.TheVariants as paused
use Rattle.html5session.specs.Intake.{IsComplete, gains_front, has_room, is_decoding, nothing_taken, page_again}
use Rattle.html5session.specs.Intake.Piece.{Bytes, TheEnd}
use Rattle.html5session.specs.RecordSessions.{RecordSessionOf, SetsForeign, StandsOn, after_session_takes, recorded_by}
use Rattle.html5session.specs.Session.{tokenizer_of, is_over, nothing_open_in, EndSaysFault, FeedRefused, SetsState, FeedsPiece, SaysFault, EndsSession, LosesEnd}
use Rattle.html5session.specs.declared.error.SessionError.{SessionError}
use Rattle.html5session.specs.declared.error.SessionError.TheVariants.{Memory, NotUtf8, Cut, Waiting, ItemOpen, Over}
use Rattle.html5sniffing.specs.PageDecoding.{PageDecoding}
use Rattle.html5table.specs.Listed.{entries_in}
use Rattle.markup5ever.specs.NamedReferences.{NamedReference, table_of}

-- ---- the numbers of statuses

-- of a feed that hands this reply on
abbrev pub fed_status : Reply PausedAt → ℕ
fed_status (RunScript paused.Script) = 1
fed_status (RunScript paused.Tag) = 12
fed_status (SwitchEncoding text) = 2
fed_status other = 0

abbrev pub error_status : SessionError → ℕ
error_status Memory = 3
error_status (NotUtf8 place) = 4
error_status Cut = 5
error_status Waiting = 6
error_status ItemOpen = 13
error_status Over = 7

-- ---- a new session

-- it stands at the start of a page, by these options, and reads references by the table. It may hold this many bytes, and a page that is
-- decoded is decoded so
pub record StartsBy (names : List NamedReference) (limit : ℕ) (page : Option PageDecoding) (s : RecordSessionOf) (name : List ℕ) (o : Options) : Type 0 where
  pub replies : Replies
  pub said : replies_said o.replies ≡ Some replies
  pub stands : StandsAt recorded_means (tokenizer_of s) (start_of (options_said o name)) (none_recorded replies o.foreign) []
  pub rules : (tokenizer_of s).rules ≡ rules_of (options_said o name) names
  pub sink : s.detached.sink ≡ nothing_recorded replies o.foreign
  pub references : s.references ≡ names
  pub intake : s.intake ≡ record nothing_taken { limit = limit; page = page }
  pub going_on : is_over s ≡ false
  pub named : are_named o ≡ true
  pub utf8 : IsUtf8 name

-- the same by the standard's names, without a limit, and of UTF-8
abbrev pub Starts : RecordSessionOf → List ℕ → Options → Type 0
Starts s name o = StartsBy (table_of (entries_in standard_list)) (2 ^ 64 - 1) None s name o

-- how a page is read and the sink of its tokens, by these options
pub record IsReadBy (r : Reading) (name : List ℕ) (o : Options) : Type 0 where
  pub replies : Replies
  pub said : replies_said o.replies ≡ Some replies
  pub by : options_of r.opts ≡ options_said o name
  pub sink : r.sink ≡ nothing_recorded replies o.foreign
  pub named : are_named o ≡ true
  pub utf8 : IsUtf8 name

-- there is a session, and it is at the start of a page
abbrev pub IsStart : Option RecordSessionOf → List ℕ → Options → Type 0
IsStart None name o = ⊥
IsStart (Some s) name o = Starts s name o

-- as the options say, a session that records tokens is there, or a page that is read with places
abbrev pub StartsAs : Bool → Option RecordSessionOf → Option PlacedSessionOf → List ℕ → Options → Type 0
StartsAs false session placed name o = IsStart session name o
StartsAs true session placed name o = IsPlacedStart placed name o

-- when no page is opened for its name, by the error
abbrev pub IsNameRefused : List ℕ → OpenError → Type 0
IsNameRefused name opening.Memory = IsUtf8 name
IsNameRefused name opening.NotUtf8 = ¬ (IsUtf8 name)
IsNameRefused name opening.BadOption = ⊥

-- when a page is not opened, by the error: the options are looked at first
abbrev pub OpenFails : List ℕ → Options → OpenError → Type 0
OpenFails name o opening.BadOption = are_named o ≡ false
OpenFails name o error = (are_named o ≡ true) × IsNameRefused name error

abbrev pub open_status : OpenError → ℕ
open_status opening.Memory = 3
open_status opening.NotUtf8 = 4
open_status opening.BadOption = 9

-- what a status of a new session says: all but DONE leave the handle closed
pub record NewSays (now : Option PageSlot) (name : List ℕ) (o : Options) (status : ℕ) : Type 0 where
  pub done : status ≡ 0 → StartsAs o.places (session_of now) (placed_of now) name o
  pub refused : status ≢ 0 → now ≡ None
  pub bad_option : (status ≡ 9) ↔ (are_named o ≡ false)
  pub not_utf8 : (status ≡ 4) ↔ ((are_named o ≡ true) × ¬ (IsUtf8 name))
  pub only : (status ≡ 0) ⊎ (status ≡ 3) ⊎ (status ≡ 4) ⊎ (status ≡ 9)

-- another page is at its start, by these options, and by the table, the limit and the decoding of the page before it; or nothing changed
pub record PageRestartSays (old new : RecordSessionOf) (name : List ℕ) (o : Options) (status : ℕ) : Type 0 where
  pub done : status ≡ 0 → StartsBy old.references old.intake.limit (page_again old.intake) new name o
  pub refused : status ≢ 0 → new ≡ old
  pub bad_option : (status ≡ 9) ↔ (are_recorded o ≡ false)
  pub not_utf8 : (status ≡ 4) ↔ ((are_recorded o ≡ true) × ¬ (IsUtf8 name))
  pub only : (status ≡ 0) ⊎ (status ≡ 3) ⊎ (status ≡ 4) ⊎ (status ≡ 9)

-- ---- what a status of each call says of a handle that has a session

-- this many bytes more are within the limit
abbrev pub fits_in : RecordSessionOf → ℕ → Bool
fits_in s more = has_room s.intake (length (waiting (recorded_by s))) more

pub record FeedSays (old new : RecordSessionOf) (bytes : List ℕ) (status : ℕ) : Type 0 where
  pub done : status ≡ 0 → FeedsPiece recorded_means old new (Bytes bytes) KeepOn
  pub script : status ≡ 1 → FeedsPiece recorded_means old new (Bytes bytes) (RunScript paused.Script)
  pub encoding : status ≡ 2 → (text : List ℕ) × FeedsPiece recorded_means old new (Bytes bytes) (SwitchEncoding text)
  pub tag : status ≡ 12 → FeedsPiece recorded_means old new (Bytes bytes) (RunScript paused.Tag)
  pub no_memory : status ≡ 3 → FeedRefused recorded_means old new (Bytes bytes) Memory
  pub not_utf8 : status ≡ 4 → (place : ℕ) × SaysFault recorded_means old new (Bytes bytes) place
  pub limit : (status ≡ 14) ↔ ((is_over old ≡ false) × (fits_in old (length bytes) ≡ false))
  pub over : (status ≡ 7) ↔ (is_over old ≡ true)
  -- at those two nothing changes
  pub unchanged : (status ≡ 7) ⊎ (status ≡ 14) → new ≡ old
  -- no records are taken, and more come after them
  pub records : WritesOn (recorded_by old) (recorded_by new)
  pub only : (status ≡ 0) ⊎ (status ≡ 1) ⊎ (status ≡ 2) ⊎ (status ≡ 3) ⊎ (status ≡ 4) ⊎ (status ≡ 7) ⊎ (status ≡ 12) ⊎ (status ≡ 14)

pub record InsertSays (old new : RecordSessionOf) (text : List ℕ) (status : ℕ) : Type 0 where
  pub done : status ≡ 0 → IsUtf8 text × (new ≡ record old { intake = gains_front old.intake text })
  pub refused : status ≢ 0 → new ≡ old
  pub limit : (status ≡ 14) ↔ ((is_over old ≡ false) × (fits_in old (length text) ≡ false))
  pub not_utf8 : (status ≡ 4) ↔ ((is_over old ≡ false) × (fits_in old (length text) ≡ true) × ¬ (IsUtf8 text))
  pub over : (status ≡ 7) ↔ (is_over old ≡ true)
  pub only : (status ≡ 0) ⊎ (status ≡ 3) ⊎ (status ≡ 4) ⊎ (status ≡ 7) ⊎ (status ≡ 14)

pub record EndSays (old new : RecordSessionOf) (status : ℕ) : Type 0 where
  pub done : status ≡ 0 → EndsSession recorded_means old new
  pub no_memory : status ≡ 3 → LosesEnd recorded_means old new
  pub waiting : (status ≡ 6) ↔ ((is_over old ≡ false) × (old.intake.text ≢ []))
  -- a fault that was still to be reported
  pub not_utf8 : (status ≡ 4) ↔ ((is_over old ≡ false) × (old.intake.text ≡ []) × (old.intake.fault ≡ true))
  pub place : status ≡ 4 → (place : ℕ) × EndSaysFault old new place
  pub cut : (status ≡ 5) ↔ ((is_over old ≡ false) × (old.intake.text ≡ []) × (old.intake.fault ≡ false) × ¬ (IsComplete old.intake))
  pub over : (status ≡ 7) ↔ (is_over old ≡ true)
  -- at those three nothing changes
  pub unchanged : (status ≡ 5) ⊎ (status ≡ 6) ⊎ (status ≡ 7) → new ≡ old
  pub records : WritesOn (recorded_by old) (recorded_by new)
  pub only : (status ≡ 0) ⊎ (status ≡ 3) ⊎ (status ≡ 4) ⊎ (status ≡ 5) ⊎ (status ≡ 6) ⊎ (status ≡ 7)

-- the same of a page that is decoded: the rest of its text is read first, up to a pause
pub record EndDecodedSays (old new : RecordSessionOf) (status : ℕ) : Type 0 where
  pub done : status ≡ 0 → (read : RecordSessionOf) × FeedsPiece recorded_means old read TheEnd KeepOn × EndsSession recorded_means read new
  pub script : status ≡ 1 → FeedsPiece recorded_means old new TheEnd (RunScript paused.Script)
  pub encoding : status ≡ 2 → (text : List ℕ) × FeedsPiece recorded_means old new TheEnd (SwitchEncoding text)
  pub tag : status ≡ 12 → FeedsPiece recorded_means old new TheEnd (RunScript paused.Tag)
  -- the rest was refused, or the end after it
  pub no_memory : status ≡ 3 → FeedRefused recorded_means old new TheEnd Memory
      ⊎ ((read : RecordSessionOf) × FeedsPiece recorded_means old read TheEnd KeepOn × LosesEnd recorded_means read new)
  pub over : (status ≡ 7) ↔ (is_over old ≡ true)
  pub unchanged : status ≡ 7 → new ≡ old
  pub records : WritesOn (recorded_by old) (recorded_by new)
  pub only : (status ≡ 0) ⊎ (status ≡ 1) ⊎ (status ≡ 2) ⊎ (status ≡ 3) ⊎ (status ≡ 7) ⊎ (status ≡ 12)

-- by whether it is decoded
abbrev pub EndSaysBy : Bool → RecordSessionOf → RecordSessionOf → ℕ → Type 0
EndSaysBy false old new status = EndSays old new status
EndSaysBy true old new status = EndDecodedSays old new status

-- a reply of the caller: the rest is read in the state that the number names
pub record ReplySays (old new : RecordSessionOf) (number status : ℕ) : Type 0 where
  pub done : status ≡ 0 → (state : State) × (state_said number ≡ Some state) × SetsState recorded_means old new state
  pub refused : status ≢ 0 → new ≡ old
  pub over : (status ≡ 7) ↔ (is_over old ≡ true)
  pub bad_option : (status ≡ 9) ↔ ((is_over old ≡ false) × (is_some (state_said number) ≡ false))
  pub item_open : (status ≡ 13) ↔ ((is_over old ≡ false) × (is_some (state_said number) ≡ true) × (nothing_open_in old ≡ false))
  pub only : (status ≡ 0) ⊎ (status ≡ 7) ⊎ (status ≡ 9) ⊎ (status ≡ 13)

-- the answer about foreign content was set, and the rest is read by it
pub record ForeignSays (old new : RecordSessionOf) (foreign : Bool) (status : ℕ) : Type 0 where
  pub done : status ≡ 0
  pub sets : SetsForeign old new foreign

-- the next bytes of the records that wait were copied, as many as there was room for, and dropped; nothing else changed
pub record TakeSays (old new : RecordSessionOf) (room out : List ℕ) (n : ℕ) : Type 0 where
  pub count : n ≡ min (length room) (length (waiting (recorded_by old)))
  pub copied : out ≡ take n (waiting (recorded_by old)) ++ drop n room
  pub taken : new ≡ after_session_takes old n
  -- and it stands where it stood
  pub stands : StandsOn old new n

-- ---- the same, of a handle that has a session or none

abbrev pub Feeds : Option RecordSessionOf → Option RecordSessionOf → List ℕ → ℕ → Type 0
Feeds old new bytes status = WhereOpen (λ s t. FeedSays s t bytes status) (status ≡ 8) old new

abbrev pub PageRestarts : Option RecordSessionOf → Option RecordSessionOf → List ℕ → Options → ℕ → Type 0
PageRestarts old new name o status = WhereOpen (λ s t. PageRestartSays s t name o status) (status ≡ 8) old new

abbrev pub Inserts : Option RecordSessionOf → Option RecordSessionOf → List ℕ → ℕ → Type 0
Inserts old new text status = WhereOpen (λ s t. InsertSays s t text status) (status ≡ 8) old new

abbrev pub Ends : Option RecordSessionOf → Option RecordSessionOf → ℕ → Type 0
Ends old new status = WhereOpen (λ s t. EndSaysBy (is_decoding s.intake) s t status) (status ≡ 8) old new

abbrev pub RepliesTo : Option RecordSessionOf → Option RecordSessionOf → ℕ → ℕ → Type 0
RepliesTo old new number status = WhereOpen (λ s t. ReplySays s t number status) (status ≡ 8) old new

abbrev pub TellsForeign : Option RecordSessionOf → Option RecordSessionOf → Bool → ℕ → Type 0
TellsForeign old new foreign status = WhereOpen (λ s t. ForeignSays s t foreign status) (status ≡ 8) old new

abbrev pub Takes : Option RecordSessionOf → Option RecordSessionOf → List ℕ → List ℕ → ℕ → Type 0
Takes old new room out n = WhereOpen (λ s t. TakeSays s t room out n) ((n ≡ 0) × (out ≡ room)) old new

-- where the bytes of the last refused piece stop being UTF-8
abbrev pub error_place : Option RecordSessionOf → Option PlacedSessionOf → ℕ
error_place (Some s) placed = place_in s.intake.error_at
error_place None (Some s) = place_in s.error_at
error_place None None = 0

-- whether nothing more is read of the page
abbrev pub over_in : Option RecordSessionOf → Option PlacedSessionOf → Bool
over_in (Some s) placed = is_over s
over_in None (Some s) = placed_page.is_over s
over_in None None = false
