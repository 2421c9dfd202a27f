-- What a session is, and what each call makes of it.
use Rattle.std.specs.Prelude.{◌≡◌, ◌≢◌, ◌⊎◌, ◌||◌, ◌&&◌, ◌<◌, ℕ, Bool, true, false, List, [], length}
use Rattle.markup5ever.specs.NamedReferences.{NamedReference}
use Rattle.html5ever_interface.specs.Sink.{Means}
use Rattle.html5ever_interface.specs.Token.{Reply}
use Rattle.html5ever_interface.specs.Token.Reply.{KeepOn}
use Rattle.html5ever_interface.specs.declared.states.State.{State}
use Rattle.html5partial.specs.declared.error.TokenizerError.{TokenizerError}
use Rattle.html5feed.specs.Starting.{in_state}
use Rattle.html5ever.specs.Detached.{DetachedOf, tokenizing}
use Rattle.html5ever.specs.Tokenizer.{Tokenizing, StandsAt, Feeds, FeedsItems, StopsFeeding, Finishes, FinishesItems, StopsEnding}
use Rattle.html5reading.specs.Start.{nothing_open}
use Rattle.html5reading.specs.Start.Mode.{Data}
use Rattle.html5reading.specs.Start.Open.{Between}
use Rattle.html5session.specs.Intake.{IntakeOf, IsComplete, Piece, Takes, TakesPiece, fault_said}
use Rattle.html5session.specs.declared.error.SessionError.{SessionError}
use Rattle.html5session.specs.declared.error.SessionError.TheVariants.{Memory, NotUtf8, Cut, Waiting, ItemOpen, Over}

-- what contracts see of a session
pub record SessionOf (X : Type 0) : Type 0 where
  -- the table of named references
  pub references : List NamedReference
  -- the tokenizer between two calls, with its sink
  pub detached : DetachedOf X
  -- what arrived and was not read yet
  pub intake : IntakeOf

-- the tokenizer, with its table
abbrev pub tokenizer_of : {X : Type 0} → SessionOf X → Tokenizing X
tokenizer_of s = tokenizing s.detached s.references

-- nothing more is read: a call failed, or the end was sent
abbrev pub is_over : {X : Type 0} → SessionOf X → Bool
is_over s = s.intake.lost || (s.detached.failed || s.detached.ended)

-- no item is open: so the rest can be read in any state
abbrev pub nothing_open_in : {X : Type 0} → SessionOf X → Bool
nothing_open_in s = nothing_open s.detached.position.opened

-- a session that was over before a call is as it was
pub record StaysOver {X : Type 0} (old new : SessionOf X) : Type 0 where
  pub over : is_over old ≡ true
  pub unchanged : new ≡ old

-- what a session that was not over took of a piece, which is still to be read
pub record TookPiece {X : Type 0} (old new : SessionOf X) (piece : Piece) : Type 0 where
  pub going_on : is_over old ≡ false
  pub takes : TakesPiece old.references old.intake new.intake piece
  pub kept : new ≡ record old { intake = new.intake }

-- the count of bytes that came begins anew where all was read and nothing is open
abbrev pub unsettled_after : Bool → ℕ → ℕ
unsettled_after true count = 0
unsettled_after false count = count

abbrev pub keeps_on : {H : Type 0} → Reply H → Bool
keeps_on KeepOn = true
keeps_on other = false

-- after a call that read the waiting text: the rest of the text waits, and all else is as the piece left it
abbrev pub intake_after : {X : Type 0} → Bool → SessionOf X → IntakeOf → List ℕ → IntakeOf
intake_after all new taken left = record taken { text = left; unsettled = unsettled_after (all && nothing_open_in new) taken.unsettled }

-- all that was taken was read: when nothing is open the count begins anew, and a fault that was still to be reported is reported
pub record Settles {X : Type 0} (old new : SessionOf X) : Type 0 where
  pub kept : new ≡ record old { intake = new.intake }
  pub silent : old.intake.fault ≡ false → new.intake ≡ record old.intake { unsettled = unsettled_after (nothing_open_in old) old.intake.unsettled }
  pub said : old.intake.fault ≡ true
      → new.intake ≡ fault_said (record old.intake { unsettled = unsettled_after (nothing_open_in old) old.intake.unsettled })

-- all that arrived was read
pub record AllRead (i : IntakeOf) : Type 0 where
  pub read : i.text ≡ []
  pub no_fault : i.fault ≡ false
  pub whole : IsComplete i

-- the page ends within a character
pub record IsCutShort (i : IntakeOf) : Type 0 where
  pub read : i.text ≡ []
  pub no_fault : i.fault ≡ false
  pub held : ¬ (IsComplete i)

-- a fault that was still to be reported is reported at the end
pub record EndSaysFault {X : Type 0} (old new : SessionOf X) (place : ℕ) : Type 0 where
  pub read : old.intake.text ≡ []
  pub fault : old.intake.fault ≡ true
  pub place_is : place ≡ old.intake.decoder.taken
  pub kept : new ≡ record old { intake = fault_said old.intake }

module _ {X S H : Type 0} (means : Means X S H) where
  -- ---- what one feed of the text that waits does

  -- from wherever the tokenizer stood, a prefix of the text was read, up to a pause or all of it, and the rest waits
  pub record FeedsText (old new : Tokenizing X) (text left : List ℕ) (reply : Reply H) : Type 0 where
    pub feeds : Feeds means old new text left reply
    pub items : FeedsItems means old new text left reply
    pub all : reply ≡ KeepOn → left ≡ []
    pub shorter : reply ≢ KeepOn → length left < length text
    -- after a pause nothing is open: the rest is markup, unless the caller says otherwise
    pub paused : reply ≢ KeepOn → new.position.opened ≡ Between Data
    pub rules : new.rules ≡ old.rules
    pub not_failed : new.failed ≡ false
    pub going_on : new.ended ≡ false

  -- a feed failed within what it would have sent
  abbrev pub StopsText : Tokenizing X → List ℕ → List ℕ → S → Type 0
  StopsText old text left told = (error : TokenizerError) × StopsFeeding means error old text left told

  -- ---- a feed

  -- a piece was fed: of the waiting text and the text that was taken of the piece a prefix was read, up to this pause, and the rest
  -- waits
  pub record FeedsPiece (old new : SessionOf X) (piece : Piece) (reply : Reply H) : Type 0 where
    pub text : List ℕ
    pub taken : IntakeOf
    pub takes : Takes old.references old.intake taken piece text
    pub feeds : FeedsText (tokenizer_of old) (tokenizer_of new) taken.text new.intake.text reply
    -- without a pause the whole piece was taken
    pub whole : reply ≡ KeepOn → taken.fault ≡ false
    pub intake : new.intake ≡ intake_after (keeps_on reply) new taken new.intake.text
    pub kept : new ≡ record old { detached = new.detached; intake = new.intake }
    pub going_on : is_over new ≡ false

  -- a piece was fed up to bytes in it, or in an earlier one, that are not UTF-8: all before them was read, and their place is
  -- reported
  pub record SaysFault (old new : SessionOf X) (piece : Piece) (place : ℕ) : Type 0 where
    pub text : List ℕ
    pub taken : IntakeOf
    pub takes : Takes old.references old.intake taken piece text
    pub feeds : FeedsText (tokenizer_of old) (tokenizer_of new) taken.text [] KeepOn
    pub fault : taken.fault ≡ true
    pub place_is : place ≡ taken.decoder.taken
    pub intake : new.intake ≡ fault_said (intake_after true new taken [])
    pub kept : new ≡ record old { detached = new.detached; intake = new.intake }
    pub going_on : is_over new ≡ false

  -- the reading failed within what the text that was taken tells
  pub record StopsPiece (old new : SessionOf X) (piece : Piece) : Type 0 where
    pub text : List ℕ
    pub taken : IntakeOf
    pub takes : Takes old.references old.intake taken piece text
    pub stops : StopsText (tokenizer_of old) taken.text new.intake.text (means.state new.detached.sink)

  -- memory ran out and a piece was lost, before anything of it was read, or within that
  pub record LosesPiece (old new : SessionOf X) (piece : Piece) : Type 0 where
    pub stops : (new.detached ≡ old.detached) ⊎ StopsPiece old new piece
    pub lost : new.intake.lost ≡ true
    pub kept : new ≡ record old { detached = new.detached; intake = new.intake }

  -- when each error of a feed comes, and what it leaves
  abbrev pub FeedRefused : SessionOf X → SessionOf X → Piece → SessionError → Type 0
  FeedRefused old new piece Memory = (new ≡ old) ⊎ LosesPiece old new piece
  FeedRefused old new piece (NotUtf8 place) = SaysFault old new piece place
  FeedRefused old new piece Cut = ⊥
  FeedRefused old new piece Waiting = ⊥
  FeedRefused old new piece ItemOpen = ⊥
  FeedRefused old new piece Over = StaysOver old new

  -- ---- an end

  -- from wherever the tokenizer stood, the whole reading was sent
  pub record EndsText (old : Tokenizing X) (told : S) : Type 0 where
    pub finishes : Finishes means old told
    pub items : FinishesItems means old told

  -- the end failed within what it would have told
  abbrev pub StopsTextEnd : Tokenizing X → S → Type 0
  StopsTextEnd old told = (error : TokenizerError) × StopsEnding means error old told

  -- the end was sent, where all that arrived was read
  pub record EndsSession (old new : SessionOf X) : Type 0 where
    pub ends : EndsText (tokenizer_of old) (means.state new.detached.sink)
    pub read : AllRead old.intake
    pub kept : new ≡ record old { detached = new.detached }
    pub over : is_over new ≡ true

  -- the end failed, out of memory, within what it would have sent
  pub record LosesEnd (old new : SessionOf X) : Type 0 where
    pub stops : StopsTextEnd (tokenizer_of old) (means.state new.detached.sink)
    pub read : AllRead old.intake
    pub kept : new ≡ record old { detached = new.detached; intake = record old.intake { lost = true } }

  -- when each error of an end comes, and what it leaves
  abbrev pub EndRefused : SessionOf X → SessionOf X → SessionError → Type 0
  EndRefused old new Memory = LosesEnd old new
  EndRefused old new (NotUtf8 place) = EndSaysFault old new place
  EndRefused old new Cut = (new ≡ old) × IsCutShort old.intake
  EndRefused old new Waiting = (new ≡ old) × (old.intake.text ≢ [])
  EndRefused old new ItemOpen = ⊥
  EndRefused old new Over = StaysOver old new

  -- ---- replies of the caller

  -- the rest is read in this state, and all else is as it was
  pub record SetsState (old new : SessionOf X) (state : State) : Type 0 where
    pub stands : StandsAt means (tokenizer_of new) (in_state old.detached.position state) (means.state old.detached.sink) []
    pub kept : new ≡ record old { detached = record old.detached { position = in_state old.detached.position state } }
