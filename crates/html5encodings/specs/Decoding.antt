-- "Decode", without a byte order mark: the handlers of the decoders, byte by byte, and the end.
use Rattle.std.specs.Prelude.{◌≡◌, ◌<◌, ◌≤◌, ℕ, suc, Bool, true, false, not, is_some, is_none, List, [], ◌∷◌, ◌++◌, length, drop, flat_map, encode_utf8_all, IsUtf8, None, IfSome, if◌then◌else◌}
use Rattle.std.specs.Borrow.{Bor}
use Rattle.html5encodings.specs.declared.encoding.Encoding.{Encoding}
use Rattle.html5encodings.specs.declared.encoding.Encoding.TheVariants as encoding
use Rattle.html5encodings.specs.declared.state.State.{State}
use Rattle.html5encodings.specs.declared.state.State.TheVariants as state
use Rattle.html5encodings.specs.declared.iso_2022_jp.Begun.TheVariants.{Nothing}
use Rattle.html5encodings.specs.declared.iso_2022_jp.Charset.TheVariants.{Ascii}
use Rattle.html5encodings.specs.Steps.{error_if}
use Rattle.html5encodings.specs.Big5 as big5
use Rattle.html5encodings.specs.EucJp as euc_jp
use Rattle.html5encodings.specs.EucKr as euc_kr
use Rattle.html5encodings.specs.Gb18030 as gb18030
use Rattle.html5encodings.specs.Iso2022Jp as iso_2022_jp
use Rattle.html5encodings.specs.ShiftJis as shift_jis
use Rattle.html5encodings.specs.SingleByte as single_byte
use Rattle.html5encodings.specs.Miscellaneous.{replaced, user_defined}
use Rattle.html5encodings.specs.Utf8 as utf8
use Rattle.html5encodings.specs.Utf16 as utf16

-- where the decoder of an encoding begins
abbrev pub start : Encoding → State
start encoding.Utf8 = state.Utf8 None
start (encoding.SingleByte single) = state.SingleByte single
start encoding.Gbk = state.Gb18030 None
start encoding.Gb18030 = state.Gb18030 None
start encoding.Big5 = state.Big5 None
start encoding.EucJp = state.EucJp None
start encoding.Iso2022Jp = state.Iso2022Jp (record { charset = Ascii; begun = Nothing; escaped = false })
start encoding.ShiftJis = state.ShiftJis None
start encoding.EucKr = state.EucKr None
start encoding.Replacement = state.Replacement false
start encoding.Utf16Be = state.Utf16 (record { big_endian = true; lead_byte = None; lead_surrogate = None })
start encoding.Utf16Le = state.Utf16 (record { big_endian = false; lead_byte = None; lead_surrogate = None })
start encoding.XUserDefined = state.UserDefined

-- what a byte gives, and where it leaves a decoder
abbrev pub Handled : Type 0
Handled = List ℕ × State

unfoldable pub handled : State → ℕ → Handled
handled (state.Utf8 part) byte = ((utf8.handled part byte).0, state.Utf8 (utf8.handled part byte).1)
handled (state.SingleByte single) byte = (single_byte.handled single byte, state.SingleByte single)
handled (state.Gb18030 lead) byte = ((gb18030.handled lead byte).0, state.Gb18030 (gb18030.handled lead byte).1)
handled (state.Big5 lead) byte = ((big5.handled lead byte).0, state.Big5 (big5.handled lead byte).1)
handled (state.EucJp lead) byte = ((euc_jp.handled lead byte).0, state.EucJp (euc_jp.handled lead byte).1)
handled (state.Iso2022Jp now) byte = ((iso_2022_jp.handled now byte).0, state.Iso2022Jp (iso_2022_jp.handled now byte).1)
handled (state.ShiftJis lead) byte = ((shift_jis.handled lead byte).0, state.ShiftJis (shift_jis.handled lead byte).1)
handled (state.EucKr lead) byte = ((euc_kr.handled lead byte).0, state.EucKr (euc_kr.handled lead byte).1)
handled (state.Replacement returned) byte = (replaced returned, state.Replacement true)
handled (state.Utf16 now) byte = ((utf16.handled now byte).0, state.Utf16 (utf16.handled now byte).1)
handled state.UserDefined byte = (user_defined byte, state.UserDefined)

-- the code points that bytes give, and where they leave the decoder
abbrev pub given : State → List ℕ → List ℕ
given now [] = []
given now (byte ∷ bytes) = (handled now byte).0 ++ given (handled now byte).1 bytes

abbrev pub state_after : State → List ℕ → State
state_after now [] = now
state_after now (byte ∷ bytes) = state_after (handled now byte).1 bytes

-- the code points at the end: something that was begun is an error
unfoldable pub at_end : State → List ℕ
at_end (state.Utf8 part) = error_if (is_some part)
at_end (state.SingleByte single) = []
at_end (state.Gb18030 lead) = error_if (is_some lead)
at_end (state.Big5 lead) = error_if (is_some lead)
at_end (state.EucJp lead) = error_if (is_some lead)
at_end (state.Iso2022Jp now) = iso_2022_jp.at_end now
at_end (state.ShiftJis lead) = error_if (is_some lead)
at_end (state.EucKr lead) = error_if (is_some lead)
at_end (state.Replacement returned) = []
at_end (state.Utf16 now) = error_if (utf16.is_begun now)
at_end state.UserDefined = []

-- ---- error mode "fatal"

-- whether the handler returns an error at a byte
unfoldable pub returns_error : State → ℕ → Bool
returns_error (state.Utf8 part) byte = utf8.returns_error part byte
returns_error (state.SingleByte single) byte = single_byte.returns_error single byte
returns_error (state.Gb18030 lead) byte = gb18030.returns_error lead byte
returns_error (state.Big5 lead) byte = big5.returns_error lead byte
returns_error (state.EucJp lead) byte = euc_jp.returns_error lead byte
returns_error (state.Iso2022Jp now) byte = iso_2022_jp.returns_error now byte
returns_error (state.ShiftJis lead) byte = shift_jis.returns_error lead byte
returns_error (state.EucKr lead) byte = euc_kr.returns_error lead byte
returns_error (state.Replacement returned) byte = not returned
returns_error (state.Utf16 now) byte = utf16.returns_error now byte
returns_error state.UserDefined byte = false

-- whether nothing is begun, so that the end is no error
unfoldable pub is_whole : State → Bool
is_whole (state.Utf8 part) = is_none part
is_whole (state.SingleByte single) = true
is_whole (state.Gb18030 lead) = is_none lead
is_whole (state.Big5 lead) = is_none lead
is_whole (state.EucJp lead) = is_none lead
is_whole (state.Iso2022Jp now) = iso_2022_jp.is_nothing now.begun
is_whole (state.ShiftJis lead) = is_none lead
is_whole (state.EucKr lead) = is_none lead
is_whole (state.Replacement returned) = true
is_whole (state.Utf16 now) = not (utf16.is_begun now)
is_whole state.UserDefined = true

-- no handler returns an error at any of the bytes, nor at their end
abbrev pub HasNoError : State → List ℕ → Type 0
HasNoError now [] = is_whole now ≡ true
HasNoError now (byte ∷ bytes) = (returns_error now byte ≡ false) × HasNoError (handled now byte).1 bytes

-- what comes before the first error: the code points, where they leave the decoder, and how many bytes they take
abbrev pub given_before_error : State → List ℕ → List ℕ
given_before_error now [] = []
given_before_error now (byte ∷ bytes) =
    if returns_error now byte then [] else ((handled now byte).0 ++ given_before_error (handled now byte).1 bytes)

abbrev pub state_before_error : State → List ℕ → State
state_before_error now [] = now
state_before_error now (byte ∷ bytes) = if returns_error now byte then now else (state_before_error (handled now byte).1 bytes)

abbrev pub len_before_error : State → List ℕ → ℕ
len_before_error now [] = 0
len_before_error now (byte ∷ bytes) = if returns_error now byte then 0 else (suc (len_before_error (handled now byte).1 bytes))

-- ----

-- the code points of all bytes
abbrev pub decoded : Encoding → List ℕ → List ℕ
decoded by bytes = given (start by) bytes ++ at_end (state_after (start by) bytes)

-- bytes are all of an encoding: its decoder returns no error
abbrev pub IsIn : Encoding → List ℕ → Type 0
IsIn by bytes = HasNoError (start by) bytes

-- the bytes of pieces, one after the other
abbrev pub bytes_of : List (Bor (List ℕ)) → List ℕ
bytes_of pieces = flat_map (λ piece. piece.now) pieces

-- in this state text in UTF-8 stands for itself, and leaves the decoder there
unfoldable pub reads_text : State → Bool
reads_text (state.Utf8 part) = is_none part
reads_text (state.SingleByte single) = false
reads_text (state.Gb18030 lead) = false
reads_text (state.Big5 lead) = false
reads_text (state.EucJp lead) = false
reads_text (state.Iso2022Jp now) = false
reads_text (state.ShiftJis lead) = false
reads_text (state.EucKr lead) = false
reads_text (state.Replacement returned) = false
reads_text (state.Utf16 now) = false
reads_text state.UserDefined = false

-- in this state ASCII stands for itself, and leaves the decoder there; except for UTF-8, where all text does
unfoldable pub reads_ascii : State → Bool
reads_ascii (state.Utf8 part) = false
reads_ascii (state.SingleByte single) = true
reads_ascii (state.Gb18030 lead) = is_none lead
reads_ascii (state.Big5 lead) = is_none lead
reads_ascii (state.EucJp lead) = is_none lead
reads_ascii (state.Iso2022Jp now) = false
reads_ascii (state.ShiftJis lead) = is_none lead
reads_ascii (state.EucKr lead) = is_none lead
reads_ascii (state.Replacement returned) = false
reads_ascii (state.Utf16 now) = false
reads_ascii state.UserDefined = true

-- in this state of ISO-2022-JP plain ASCII stands for itself, and leaves the decoder there
unfoldable pub reads_plain : State → Bool
reads_plain (state.Utf8 part) = false
reads_plain (state.SingleByte single) = false
reads_plain (state.Gb18030 lead) = false
reads_plain (state.Big5 lead) = false
reads_plain (state.EucJp lead) = false
reads_plain (state.Iso2022Jp now) = iso_2022_jp.reads_plain now.charset now.begun now.escaped
reads_plain (state.ShiftJis lead) = false
reads_plain (state.EucKr lead) = false
reads_plain (state.Replacement returned) = false
reads_plain (state.Utf16 now) = false
reads_plain state.UserDefined = false

-- what decoding leaves
abbrev pub IsState : State → Type 0
IsState (state.Utf8 part) = IfSome part utf8.IsPartial
IsState (state.SingleByte single) = Unit {0}
IsState (state.Gb18030 lead) = Unit {0}
IsState (state.Big5 lead) = Unit {0}
IsState (state.EucJp lead) = Unit {0}
IsState (state.Iso2022Jp now) = Unit {0}
IsState (state.ShiftJis lead) = Unit {0}
IsState (state.EucKr lead) = Unit {0}
IsState (state.Replacement returned) = Unit {0}
IsState (state.Utf16 now) = IfSome now.lead_surrogate utf16.IsLeadSurrogate
IsState state.UserDefined = Unit {0}

-- Text at the front that stands for itself, and leaves the decoder where it is, whatever follows.
pub record StandsForItself (from : State) (front : List ℕ) : Type 0 where
  pub text : (later : List ℕ) → encode_utf8_all (given from (front ++ later)) ≡ front ++ encode_utf8_all (given from later)
  pub leaves : (later : List ℕ) → state_after from (front ++ later) ≡ state_after from later
  pub utf8 : IsUtf8 front

-- After some bytes at the front, what is to come is what was to come.
pub record Continues (before : State) (bytes old new : List ℕ) (front : ℕ × State) : Type 0 where
  pub some : 0 < front.0
  pub within : front.0 ≤ length bytes
  pub text : new ++ encode_utf8_all (given front.1 (drop front.0 bytes)) ≡ old ++ encode_utf8_all (given before bytes)
  pub leaves : state_after front.1 (drop front.0 bytes) ≡ state_after before bytes
  pub valid : IsState front.1
