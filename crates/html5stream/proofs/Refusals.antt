-- What the refusals of the parts say, by cases.
use Rattle.std.proofs.Common.{◌≡◌, ◌≢◌, ℕ, List, ap, refl}
use Rattle.html5ever_interface.specs.Sink.{Means, Message}
use Rattle.html5ever.specs.Tokenizer.{EndStops}
use Rattle.html5partial.specs.declared.error.TokenizerError.{TokenizerError}
use Rattle.html5partial.specs.declared.error.TokenizerError.TheVariants.{Memory, Sink, Failed}
use Rattle.utf8_pieces.specs.declared.error.DecodeError.{DecodeError}
use Rattle.utf8_pieces.specs.declared.error.DecodeError.TheVariants as decoder
use Rattle.html5stream.specs.declared.error.StreamError.{StreamError}
use Rattle.html5stream.specs.declared.error.StreamError.TheVariants as stream
use Rattle.html5stream.specs.DecodeErrors.{of_decoder}
use Rattle.html5stream.specs.Errors.{stream_error}
use Rattle.html5stream.specs.Streams.{SourceStops}

pub SourceStops-end : {X S H : Type 0} (means : Means X S H) (e : TokenizerError) (s v : S) (M : List Message)
    → EndStops means e s M v → SourceStops means (stream_error e) s M v
SourceStops-end means Memory s v M stops = stops
SourceStops-end means Sink s v M stops = stops
SourceStops-end means Failed s v M stops = absurd stops

-- the place that an error names
abbrev pub place_in : StreamError → ℕ
place_in error = elim error [
  | stream.Read ↦ 0
  | stream.NotUtf8 place ↦ place
  | stream.Memory ↦ 0
  | stream.Sink ↦ 0
  | stream.TooLong ↦ 0
]

-- a refusal of bytes names a place
pub decoder-named : (e : DecodeError) (error : StreamError) → error ≡ of_decoder e → ((place : ℕ) → error ≢ stream.NotUtf8 place) → e ≢ decoder.Memory → ⊥
decoder-named e error = elim e as (λ x. error ≡ of_decoder x → ((place : ℕ) → error ≢ stream.NotUtf8 place) → x ≢ decoder.Memory → ⊥) [
  | decoder.NotUtf8 place ↦ λ is other some. other place is
  | decoder.Memory ↦ λ is other some. some refl
]

pub decoder-place : (e : DecodeError) (place : ℕ) → of_decoder e ≡ stream.NotUtf8 place → e ≡ decoder.NotUtf8 place
decoder-place e place = elim e as (λ x. of_decoder x ≡ stream.NotUtf8 place → x ≡ decoder.NotUtf8 place) [
  | decoder.NotUtf8 valid ↦ λ same. ap decoder.NotUtf8 (ap place_in same)
  | decoder.Memory ↦ λ same. absurd (cc same)
]
