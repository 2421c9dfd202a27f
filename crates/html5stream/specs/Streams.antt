-- What reading a source to its end tells, and what it leaves where it stops.
use Rattle.std.specs.Prelude.{◌≡◌, ◌≢◌, ◌≤◌, ◌⊎◌, ℕ, List, ◌++◌, length, Option, Result, Ok, Err}
use Rattle.std.specs.Io.KnownBytes.{Consumes, IsAtEnd}
use Rattle.std.specs.Str.{IsUtf8, chars}
use Rattle.html5ever_interface.specs.Options.{OptionsOf}
use Rattle.html5ever_interface.specs.Sink.{Means, Message, stepped}
use Rattle.html5reading.specs.Reading.{all_messages, state_after}
use Rattle.html5reading.specs.Start.{start_of}
use Rattle.html5states.specs.Telling.{StopsWithin, FaultsWithin}
use Rattle.html5ever.specs.Tokenizer.{rules_of, finished_reading, FinishedByItems}
use Rattle.markup5ever.specs.NamedReferences.{NamedReference}
use Rattle.utf8_pieces.specs.Pieces.{IsCutCharacter, IsFault, IsNeverUtf8}
use Rattle.utf8_pieces.specs.declared.error.DecodeError.TheVariants as decoder
use Rattle.html5stream.specs.declared.error.StreamError.{StreamError}
use Rattle.html5stream.specs.declared.error.StreamError.TheVariants.{Read, NotUtf8, Memory, Sink, TooLong}

-- how many reads an error says that failed
abbrev pub failed_read : StreamError → ℕ
failed_read Read = 1
failed_read (NotUtf8 place) = 0
failed_read Memory = 0
failed_read Sink = 0
failed_read TooLong = 0

-- how many reads failed in a call with this result
abbrev pub failed_reads : {T : Type 0} → Result T StreamError → ℕ
failed_reads (Ok x) = 0
failed_reads (Err e) = failed_read e

-- how often an error says that the sink faulted
abbrev pub sink_fault : StreamError → ℕ
sink_fault Read = 0
sink_fault (NotUtf8 place) = 0
sink_fault Memory = 0
sink_fault Sink = 1
sink_fault TooLong = 0

-- how often the sink faulted in a call with this result
abbrev pub sink_faults : {T : Type 0} → Result T StreamError → ℕ
sink_faults (Ok x) = 0
sink_faults (Err e) = sink_fault e

-- the bytes that the source gave stop being UTF-8 at that place: nothing after them can mend it, or the source ended there
-- within a character
pub record GivesNoText (place : ℕ) (before after : Option (List ℕ)) : Type 0 where
  pub bytes : List ℕ
  pub given : Consumes before after bytes
  pub fault : IsFault 0 bytes (decoder.NotUtf8 place)
  pub settled : IsNeverUtf8 bytes ⊎ IsAtEnd after

-- what the source gave has no such fault: bytes after it can still make it UTF-8
pub record GivesNoFault (before after : Option (List ℕ)) : Type 0 where
  pub bytes : List ℕ
  pub given : Consumes before after bytes
  pub may_go_on : ¬ (IsNeverUtf8 bytes)

-- the source gave this many bytes, or more
pub record GivesAtLeast (count : ℕ) (before after : Option (List ℕ)) : Type 0 where
  pub bytes : List ℕ
  pub given : Consumes before after bytes
  pub long : count ≤ length bytes

module _ {X S H : Type 0} (means : Means X S H) where
  -- what each error leaves of the messages that a text tells: a prefix of them was sent, and the sink may have faulted after it,
  -- or at its own end
  abbrev pub SourceStops : StreamError → S → List Message → S → Type 0
  SourceStops Read s M t = StopsWithin means.step means.faulted s M t
  SourceStops (NotUtf8 place) s M t = StopsWithin means.step means.faulted s M t
  SourceStops Memory s M t = StopsWithin means.step means.faulted s M t
  SourceStops Sink s M t = FaultsWithin means.step means.faulted s M t ⊎ (t ≡ means.end_faulted (stepped means.step s M))
  SourceStops TooLong s M t = StopsWithin means.step means.faulted s M t

  -- the source gave a text up to its end, and its whole reading was sent; then the sink finished
  pub record ReadsSource (opts : OptionsOf) (references : List NamedReference) (s : S) (before after : Option (List ℕ)) (t : S) : Type 0 where
    pub bytes : List ℕ
    pub given : Consumes before after bytes
    pub at_end : IsAtEnd after
    pub utf8 : IsUtf8 bytes
    pub told : t ≡ finished_reading means opts references s (chars bytes)

  -- the same by items: what the items of the text tell, and its end, was sent
  pub record ReadsSourceItems (opts : OptionsOf) (references : List NamedReference) (s : S) (before after : Option (List ℕ)) (t : S) : Type 0 where
    pub bytes : List ℕ
    pub given : Consumes before after bytes
    pub at_end : IsAtEnd after
    pub utf8 : IsUtf8 bytes
    pub told : FinishedByItems means opts references s (chars bytes) t

  -- what the source gave begins with a text, and the sink stopped within the reading of that. Where the error is not of the bytes,
  -- they can still become a text.
  pub record StopsSource (error : StreamError) (opts : OptionsOf) (references : List NamedReference) (s : S)
      (before after : Option (List ℕ)) (t : S) : Type 0 where
    pub text : List ℕ
    pub rest : List ℕ
    pub given : Consumes before after (text ++ rest)
    pub utf8 : IsUtf8 text
    pub stopped : SourceStops error s (all_messages means (rules_of opts references) (start_of opts) s (chars text)) t
    pub may_go_on : ((place : ℕ) → error ≢ NotUtf8 place) → ¬ (IsNeverUtf8 (text ++ rest))

  -- what the source gave is a text, and after it at most a prefix of a character: exactly what the text decides was sent
  pub record TellsGiven (opts : OptionsOf) (references : List NamedReference) (s : S) (before after : Option (List ℕ)) (t : S) : Type 0 where
    pub text : List ℕ
    pub rest : List ℕ
    pub given : Consumes before after (text ++ rest)
    pub utf8 : IsUtf8 text
    pub cut : IsCutCharacter rest
    pub told : t ≡ state_after means (rules_of opts references) (start_of opts) s (chars text)
