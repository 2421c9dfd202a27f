-- What a session is that cleans a page as its bytes arrive, and what each call makes of it.
use Rattle.std.specs.Prelude.{◌≡◌, ◌⊎◌, ℕ, Bool, true, false, List, [], ◌++◌, length, Option}
use Rattle.std.specs.Str.{IsUtf8, chars}
use Rattle.markup5ever.specs.NamedReferences.{NamedReference}
use Rattle.outbox.specs.Outgoing.{waiting}
use Rattle.utf8_pieces.specs.Pieces.{place_after}
use Rattle.html5ever_interface.specs.Options.{default_options}
use Rattle.html5ever_interface.specs.Sink.{Means}
use Rattle.html5ever_interface.specs.Token.Reply.{KeepOn}
use Rattle.html5reading.specs.Start.{start_of}
use Rattle.html5sinks.specs.Runs.{RunSink, Running, joined_of}
use Rattle.html5ever.specs.Tokenizer.{StandsAt, rules_of}
use Rattle.html5stream.specs.Pages.{runs_means, runs_start}
use Rattle.html5session.specs.Intake.{IntakeOf, IsTextSoFar, has_room, is_decoding, nothing_taken, whole_text}
use Rattle.html5session.specs.Intake.Piece.{Bytes, TheEnd}
use Rattle.html5sniffing.specs.PageDecoding.{PageDecoding}
use Rattle.html5session.specs.Session as session
use Rattle.html5session.specs.Session.{AllRead, IsCutShort, SessionOf, StaysOver, is_over, tokenizer_of}
use Rattle.html5session.specs.declared.error.SessionError.{SessionError}
use Rattle.html5session.specs.declared.error.SessionError.TheVariants.{Memory, NotUtf8, Cut, Waiting, ItemOpen, Over}
use Rattle.html5policy.specs.Policy.{PolicyOf}
use Rattle.html5cleaner.specs.Buffering.{Buffered, WaitsOn, after_taking, buffer_start, buffered_step}
use Rattle.html5cleaner.specs.Cleaning.{kept_of_page, page_bytes}

-- what contracts see of a session: its sink hands runs of text and tags to the cleaner
abbrev pub CleaningOf : Type 0
CleaningOf = SessionOf (RunSink Buffered)

-- the policy, what was kept of the page, and how many of its bytes were taken
abbrev pub buffer_of : CleaningOf → Buffered
buffer_of s = s.detached.sink.handler

-- the kept bytes that were not taken yet
abbrev pub waiting_in : CleaningOf → List ℕ
waiting_in s = waiting (buffer_of s).out

-- how many bytes the sink holds: the run of text that waits for a token, and the kept bytes that wait
abbrev pub held_in_sink : CleaningOf → ℕ
held_in_sink s = place_after (length s.detached.sink.run) (length (waiting_in s))

-- this many bytes more are within the limit
abbrev pub fits_in : CleaningOf → ℕ → Bool
fits_in s more = has_room s.intake (held_in_sink s) more

-- this many bytes of those that wait were taken, and all else is as it was
abbrev pub after_session_takes : CleaningOf → ℕ → CleaningOf
after_session_takes s count =
    record s { detached = record s.detached { sink = record s.detached.sink { handler = after_taking s.detached.sink.handler count } } }

-- ---- the sink

-- the state of the sink: that of the cleaner, and the run of text that waits for a token
abbrev pub cleaning_run : RunSink Buffered → Running Buffered
cleaning_run s = record { joined = joined_of s.handler s.run; foreign = s.foreign }

abbrev pub buffer_means : Means (RunSink Buffered) (Running Buffered) (Unit {0})
buffer_means = runs_means cleaning_run buffered_step

-- ---- the fed bytes, and what was kept of them

-- exactly these bytes were fed, by this policy and this table: a text, whose reading the cleaner was sent as far as it is decided, and
-- after it what may begin a character. Where the page is decoded, this text is what these bytes decide of it
pub record Fed (policy : PolicyOf) (references : List NamedReference) (s : CleaningOf) (bytes : List ℕ) : Type 0 where
  pub text : List ℕ
  pub parts : IsTextSoFar references s.intake bytes text
  pub utf8 : IsUtf8 text
  pub stands : StandsAt buffer_means (tokenizer_of s) (start_of default_options)
      (runs_start (buffer_start policy (buffer_of s).out.taken)) (chars text)
  pub rules : (tokenizer_of s).rules ≡ rules_of default_options references

-- the page had these bytes. What was kept of it, the bytes that were taken and those that wait, is all that the policy keeps of its
-- text.
pub record Ended (policy : PolicyOf) (references : List NamedReference) (s : CleaningOf) (bytes : List ℕ) : Type 0 where
  pub utf8 : IsUtf8 (whole_text references s.intake bytes)
  pub page : (buffer_of s).out.bytes ≡ page_bytes (kept_of_page policy references (whole_text references s.intake bytes))

-- bytes fed before a take stay fed
abbrev pub StaysFed : CleaningOf → CleaningOf → Type 0
StaysFed old new = (policy : PolicyOf) (references : List NamedReference) (bytes : List ℕ) → Fed policy references old bytes → Fed policy references new bytes

-- to the bytes that were fed came these
abbrev pub FedMore : CleaningOf → CleaningOf → List ℕ → Type 0
FedMore old new bytes =
    (policy : PolicyOf) (references : List NamedReference) (before : List ℕ) → Fed policy references old before
    → Fed policy references new (before ++ bytes)

-- the bytes that were fed are the page
abbrev pub EndsFed : CleaningOf → CleaningOf → Type 0
EndsFed old new =
    (policy : PolicyOf) (references : List NamedReference) (bytes : List ℕ) → Fed policy references old bytes → Ended policy references new bytes

-- of the bytes that were fed and these a prefix was fed: all that stands before bytes that are not UTF-8
pub record FedUpTo (policy : PolicyOf) (references : List NamedReference) (s : CleaningOf) (bytes : List ℕ) : Type 0 where
  pub front : List ℕ
  pub rest : List ℕ
  pub parts : bytes ≡ front ++ rest
  pub fed : Fed policy references s front

abbrev pub FedFront : CleaningOf → CleaningOf → List ℕ → Type 0
FedFront old new bytes =
    (policy : PolicyOf) (references : List NamedReference) (before : List ℕ) → Fed policy references old before
    → FedUpTo policy references new (before ++ bytes)

-- ---- what the calls do

-- when nothing was fed, nothing was fed to the session that decodes
abbrev pub DecodesFrom : CleaningOf → CleaningOf → Type 0
DecodesFrom old new = (policy : PolicyOf) (references : List NamedReference) → Fed policy references old [] → Fed policy references new []

-- a page at its start, with nothing that was fed, kept or refused, which may hold this many bytes, and whose bytes this decoder takes, if
-- there is one
pub record StartsPage (policy : PolicyOf) (references : List NamedReference) (limit : ℕ) (page : Option PageDecoding) (s : CleaningOf) : Type 0 where
  pub fed : Fed policy references s []
  pub buffer : buffer_of s ≡ buffer_start policy 0
  pub table : s.references ≡ references
  pub intake : s.intake ≡ record nothing_taken { limit = limit; page = page }
  pub going_on : is_over s ≡ false

-- between two calls nothing waits to be read, and no fault is still to be reported: no reply of the cleaner pauses
pub record ReadsAtOnce (i : IntakeOf) : Type 0 where
  pub read : i.text ≡ []
  pub no_fault : i.fault ≡ false

-- a piece was fed, as the session below feeds it up to no pause. The waiting bytes stay, and the kept part of the piece comes after them.
pub record FeedsPiece (old new : CleaningOf) (bytes : List ℕ) : Type 0 where
  pub fed : FedMore old new bytes
  pub feeds : session.FeedsPiece buffer_means old new (Bytes bytes) KeepOn
  pub waits : WaitsOn (buffer_of old) (buffer_of new)

-- a piece was fed up to bytes in it that are not UTF-8. The waiting bytes stay, and the kept part of the text before the fault comes after
-- them.
pub record SaysFault (old new : CleaningOf) (bytes : List ℕ) (place : ℕ) : Type 0 where
  pub fed : FedFront old new bytes
  pub says : session.SaysFault buffer_means old new (Bytes bytes) place
  pub waits : WaitsOn (buffer_of old) (buffer_of new)

-- memory ran out, and a piece was lost. The waiting bytes stay, and maybe a prefix of the kept part of the piece comes after them.
pub record LosesPiece (old new : CleaningOf) (bytes : List ℕ) : Type 0 where
  pub loses : session.LosesPiece buffer_means old new (Bytes bytes)
  pub waits : WaitsOn (buffer_of old) (buffer_of new)

-- when each error of a feed comes, and what it leaves
abbrev pub FeedRefused : CleaningOf → CleaningOf → List ℕ → SessionError → Type 0
FeedRefused old new bytes Memory = (new ≡ old) ⊎ LosesPiece old new bytes
FeedRefused old new bytes (NotUtf8 place) = SaysFault old new bytes place
FeedRefused old new bytes Cut = ⊥
FeedRefused old new bytes Waiting = ⊥
FeedRefused old new bytes ItemOpen = ⊥
FeedRefused old new bytes Over = StaysOver old new

-- The page ended: unless the page is decoded, nothing was held of a character. The waiting bytes stay, with the rest of the kept part
-- after them.
pub record EndsPage (old new : CleaningOf) : Type 0 where
  pub ended : EndsFed old new
  pub waits : WaitsOn (buffer_of old) (buffer_of new)
  pub read : is_decoding old.intake ≡ false → AllRead old.intake
  pub kept : is_decoding old.intake ≡ false → new ≡ record old { detached = new.detached }
  pub references : new.references ≡ old.references
  pub over : is_over new ≡ true

-- memory ran out, and the end was lost. The waiting bytes stay, and maybe a prefix of the rest comes after them.
pub record LosesEnd (old new : CleaningOf) : Type 0 where
  pub loses : session.LosesEnd buffer_means old new
  pub waits : WaitsOn (buffer_of old) (buffer_of new)

-- of a page that is decoded the rest of the text was read, and then the end was lost
pub record LosesAfterRest (old new : CleaningOf) : Type 0 where
  pub between : CleaningOf
  pub reads : session.FeedsPiece buffer_means old between TheEnd KeepOn
  pub loses : session.LosesEnd buffer_means between new

-- of a page that is decoded the rest of the text was lost, or the end after it. The waiting bytes stay, and maybe a prefix of the rest of
-- the kept part comes after them.
pub record LosesRest (old new : CleaningOf) : Type 0 where
  pub loses : session.LosesPiece buffer_means old new TheEnd ⊎ LosesAfterRest old new
  pub waits : WaitsOn (buffer_of old) (buffer_of new)
  pub references : new.references ≡ old.references
  pub over : is_over new ≡ true

-- the end was refused, out of memory: it is lost or, of a page that is decoded, may have changed nothing
abbrev pub EndWantsMemory : Bool → CleaningOf → CleaningOf → Type 0
EndWantsMemory false old new = LosesEnd old new
EndWantsMemory true old new = (new ≡ old) ⊎ LosesRest old new

-- when each error of an end comes, and what it leaves
abbrev pub EndRefused : CleaningOf → CleaningOf → SessionError → Type 0
EndRefused old new Memory = EndWantsMemory (is_decoding old.intake) old new
EndRefused old new (NotUtf8 place) = ⊥
EndRefused old new Cut = (new ≡ old) × IsCutShort old.intake × (is_decoding old.intake ≡ false)
EndRefused old new Waiting = ⊥
EndRefused old new ItemOpen = ⊥
EndRefused old new Over = StaysOver old new
