-- Bytes that arrive in pieces, and are to be UTF-8 all in all.
use Rattle.std.specs.Prelude.{◌≡◌, ◌≢◌, ℕ, ◌+◌, ◌-◌, ◌^◌, ◌<◌, ◌≤◌, ◌⊎◌, ◌↔◌, min, List, [], ◌++◌, length, take, drop, IsUtf8, Result, OnOk, OnErr, IfOk, IfErr, IsErrAnd, String, string_bytes}
use Rattle.std.specs.Borrow.{Bor}
use Rattle.std.specs.Char.{IsScalar, encode_utf8}
use Rattle.std.specs.List.{flat_map}
use Rattle.std.specs.Str.{IsValidUpTo}
use Rattle.utf8_pieces.specs.declared.error.DecodeError.{DecodeError}
use Rattle.utf8_pieces.specs.declared.error.DecodeError.TheVariants.{NotUtf8, Memory}

-- where a decoder stands: the bytes that it holds back, and how many bytes came before them
pub record Decoding : Type 0 where
  pub held : List ℕ
  pub taken : ℕ

-- the bytes begin the UTF-8 of some character, and are not all of it; they may be none
pub record IsCutCharacter (bytes : List ℕ) : Type 0 where
  pub character : ℕ
  pub rest : List ℕ
  pub scalar : IsScalar character
  pub some : 0 < length rest
  pub whole : encode_utf8 character ≡ bytes ++ rest

-- whatever follows them, the bytes are not UTF-8
abbrev pub IsNeverUtf8 : List ℕ → Type 0
IsNeverUtf8 bytes = (later : List ℕ) → ¬ (IsUtf8 (bytes ++ later))

-- the place this many bytes after another, as a `u64` counts: it stays at the greatest once there
abbrev pub place_after : ℕ → ℕ → ℕ
place_after place count = min (place + count) (2 ^ 64 - 1)

-- the error names the place where the bytes, of which the first stands at a place, stop being UTF-8
pub record IsFault (place : ℕ) (bytes : List ℕ) (error : DecodeError) : Type 0 where
  pub valid_len : ℕ
  pub valid : IsValidUpTo bytes valid_len
  pub named : error ≡ NotUtf8 (place_after place valid_len)

-- the bytes of pieces, one after the other
abbrev pub bytes_of : List (Bor (List ℕ)) → List ℕ
bytes_of pieces = flat_map (λ piece. piece.now) pieces

-- the first n bytes are UTF-8, and those after them may begin a character
pub record IsTextThenCut (bytes : List ℕ) (n : ℕ) : Type 0 where
  pub within : n ≤ length bytes
  pub text : IsUtf8 (take n bytes)
  pub cut : IsCutCharacter (drop n bytes)

-- what `Decoder::decode` gives for these bytes, where what was held stands in front
pub record Decodes {Z : Type 0} (old new : Decoding) (bytes : List ℕ) (result : Result (String Z) DecodeError) : Type 0 where
  pub text : IfOk result (λ text. bytes ≡ string_bytes text ++ new.held)
  pub cut : OnOk result (IsCutCharacter new.held)
  pub taken : IfOk result (λ text. new.taken ≡ place_after old.taken (length (string_bytes text)))
  pub fault : IfErr result (λ error. (error ≡ Memory) ⊎ IsFault old.taken bytes error)
  pub refused : IsErrAnd result (λ error. error ≢ Memory) ↔ IsNeverUtf8 bytes
  pub unchanged : OnErr result (new ≡ old)

-- the front of these bytes was taken, a text up to the place where they stop being UTF-8. Nothing of them is held.
pub record EndsAtFault (old new : Decoding) (bytes text : List ℕ) : Type 0 where
  pub valid_len : ℕ
  pub valid : IsValidUpTo bytes valid_len
  pub front : text ≡ take valid_len bytes
  pub held : new.held ≡ []
  pub taken : new.taken ≡ place_after old.taken valid_len
