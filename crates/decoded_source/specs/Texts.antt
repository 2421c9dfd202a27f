-- The text that a source of bytes in an encoding still gives.
use Rattle.std.specs.Prelude.{ℕ, List, [], ◌∷◌, ◌++◌, Option, None, Some, encode_utf8_all, if◌then◌else◌}
use Rattle.html5encodings.specs.declared.state.State.{State}
use Rattle.html5encodings.specs.Decoding.{at_end, given, handled, is_whole, returns_error, state_after}
use Rattle.decoded_source.specs.declared.source.ErrorMode.{ErrorMode}
use Rattle.decoded_source.specs.declared.source.ErrorMode.TheVariants.{Replacement, Fatal, Failed}

-- A source; what happens to errors; the decoder of its bytes, none once the end was decoded; the bytes that were read of it and wait
-- to be decoded; the text that waits to be read; and how many reads failed that the source knows nothing of.
pub record Reading (S : Type 0) : Type 0 where
  pub inner : S
  pub mode : ErrorMode
  pub decoder : Option State
  pub undecoded : List ℕ
  pub waiting : List ℕ
  pub own_failures : ℕ

-- The mark of an error in the text of a source whose reads fail there: a byte that no text has. It is never given.
abbrev pub refusal : List ℕ
refusal = 0xFF ∷ []

-- the text of bytes up to the first error, and the refusal if there is one
abbrev pub text_up_to_error : State → List ℕ → List ℕ
text_up_to_error now [] = if is_whole now then [] else refusal
text_up_to_error now (byte ∷ bytes) =
    if returns_error now byte then refusal else (encode_utf8_all (handled now byte).0 ++ text_up_to_error (handled now byte).1 bytes)

-- the text of bytes, which are all that are to come
abbrev pub text_of : ErrorMode → Option State → List ℕ → List ℕ
text_of Failed now bytes = refusal
text_of Replacement None bytes = []
text_of Replacement (Some now) bytes = encode_utf8_all (given now bytes ++ at_end (state_after now bytes))
text_of Fatal None bytes = []
text_of Fatal (Some now) bytes = text_up_to_error now bytes

-- the text that is still given, where these are the bytes of the source that are still to come
abbrev pub text_from : {S : Type 0} → Reading S → Option (List ℕ) → Option (List ℕ)
text_from reading None = None
text_from reading (Some bytes) = Some (reading.waiting ++ text_of reading.mode reading.decoder (reading.undecoded ++ bytes))
