-- A tokenizer that takes its text from a decoder: what each call does to where it stands.
use Rattle.std.specs.Prelude.{◌≡◌, ◌≢◌, ℕ, false, List, ◌++◌, length, Option}
use Rattle.std.specs.Io.KnownBytes.{Consumes, IsAtEnd}
use Rattle.std.specs.Str.{IsUtf8, chars}
use Rattle.html5ever_interface.specs.Sink.{Means}
use Rattle.html5reading.specs.Reading.{all_messages, state_after}
use Rattle.html5reading.specs.Start.{Start}
use Rattle.html5ever.specs.Tokenizer.{Tokenizing, StandsAt, ReadsOn, ReadsWhole}
use Rattle.utf8_pieces.specs.Pieces.{Decoding, IsCutCharacter, IsFault, IsNeverUtf8, place_after}
use Rattle.utf8_pieces.specs.declared.error.DecodeError.TheVariants as decoder
use Rattle.html5stream.specs.declared.error.StreamError.{StreamError}
use Rattle.html5stream.specs.declared.error.StreamError.TheVariants.{Read, NotUtf8}
use Rattle.html5stream.specs.Streams.{SourceStops, GivesNoText}

module _ {X S H : Type 0} (means : Means X S H) where
  -- a piece was taken: the text that it completes was fed, and what may begin a character is held
  pub record TakesBytes (old new : Decoding) (t u : Tokenizing X) (bytes : List ℕ) : Type 0 where
    pub text : List ℕ
    pub parts : old.held ++ bytes ≡ text ++ new.held
    pub utf8 : IsUtf8 text
    pub cut : IsCutCharacter new.held
    pub taken : new.taken ≡ place_after old.taken (length text)
    pub reads : ReadsOn means t u (chars text)
    pub rules : u.rules ≡ t.rules
    pub going_on : u.ended ≡ false
    pub not_failed : u.failed ≡ false

  -- what the source gave up to its end is a text, and was fed
  pub record TakesText (before after : Option (List ℕ)) (t u : Tokenizing X) : Type 0 where
    pub bytes : List ℕ
    pub given : Consumes before after bytes
    pub at_end : IsAtEnd after
    pub utf8 : IsUtf8 bytes
    pub reads : ReadsOn means t u (chars bytes)
    pub rules : u.rules ≡ t.rules

  -- and then the end was sent, and the sink finished
  pub record FinishesText (before after : Option (List ℕ)) (t : Tokenizing X) (v : S) : Type 0 where
    pub bytes : List ℕ
    pub given : Consumes before after bytes
    pub at_end : IsAtEnd after
    pub utf8 : IsUtf8 bytes
    pub finishes : ReadsWhole means t (chars bytes) v

  -- from wherever the tokenizer stood, exactly what is decided by what was taken and `more` was sent
  abbrev pub TellsDecided : Tokenizing X → List ℕ → S → Type 0
  TellsDecided t more v =
      (K : Start) (s : S) (front : List ℕ) → StandsAt means t K s front
      → v ≡ state_after means t.rules K s (front ++ more)

  -- from wherever the tokenizer stood, the sink stopped within the reading of what was taken and `more`
  abbrev pub StopsTelling : StreamError → Tokenizing X → List ℕ → S → Type 0
  StopsTelling error t more v =
      (K : Start) (s : S) (front : List ℕ) → StandsAt means t K s front
      → SourceStops means error s (all_messages means t.rules K s (front ++ more)) v

  -- from wherever the tokenizer stood, the sink stopped within the reading of what was taken
  abbrev pub StopsAtEnd : StreamError → Tokenizing X → S → Type 0
  StopsAtEnd error t v =
      (K : Start) (s : S) (front : List ℕ) → StandsAt means t K s front
      → SourceStops means error s (all_messages means t.rules K s front) v

  -- a piece was refused: what was held and the piece begin with a text, and the sink stopped within the reading of that
  pub record StopsBytes (error : StreamError) (old : Decoding) (t : Tokenizing X) (bytes : List ℕ) (v : S) : Type 0 where
    pub text : List ℕ
    pub rest : List ℕ
    pub parts : old.held ++ bytes ≡ text ++ rest
    pub utf8 : IsUtf8 text
    pub stopped : StopsTelling error t (chars text) v
    pub no_text : (place : ℕ) → error ≡ NotUtf8 place → IsFault old.taken (old.held ++ bytes) (decoder.NotUtf8 place) × IsNeverUtf8 (old.held ++ bytes)
    pub may_go_on : ((place : ℕ) → error ≢ NotUtf8 place) → ¬ (IsNeverUtf8 (old.held ++ bytes))

  -- a source was not read to its end: what it gave begins with a text, and the sink stopped within the reading of that
  pub record StopsText (error : StreamError) (before after : Option (List ℕ)) (t : Tokenizing X) (v : S) : Type 0 where
    pub text : List ℕ
    pub rest : List ℕ
    pub given : Consumes before after (text ++ rest)
    pub utf8 : IsUtf8 text
    pub stopped : StopsTelling error t (chars text) v
    pub no_text : (place : ℕ) → error ≡ NotUtf8 place → GivesNoText place before after
    pub may_go_on : ((place : ℕ) → error ≢ NotUtf8 place) → ¬ (IsNeverUtf8 (text ++ rest))
    pub decided : error ≡ Read → IsCutCharacter rest × TellsDecided t (chars text) v
