-- What arrived of a page and was not read yet, and what is taken of a piece.
use Rattle.std.specs.Prelude.{◌≡◌, ◌⊎◌, ◌-◌, ◌^◌, ℕ, Bool, true, false, is_some, List, [], ◌++◌, length, nat_le, Option, None, Some, option_map}
use Rattle.std.specs.Option.{option_and_then}
use Rattle.std.specs.Str.{IsUtf8, chars}
use Rattle.html5encodings.specs.declared.encoding.Encoding.{Encoding}
use Rattle.html5sniffing.specs.PageDecoding as page
use Rattle.html5sniffing.specs.PageDecoding.{PageDecoding, GoesOn, anew, page_start, text_with}
use Rattle.html5sniffing.specs.PageEncoding.{text_of_page}
use Rattle.markup5ever.specs.NamedReferences.{NamedReference}
use Rattle.utf8_pieces.specs.Pieces.{Decoding, EndsAtFault, IsCutCharacter, IsNeverUtf8, place_after}

pub record IntakeOf : Type 0 where
  -- the bytes that may begin a character, and how many bytes came before them
  pub decoder : Decoding
  -- where a page is decoded by the encoding that it is in, its decoder: then no byte goes to the one of UTF-8
  pub page : Option PageDecoding
  -- the text that waits to be read
  pub text : List ℕ
  -- whether bytes that are not UTF-8 follow those that were taken, which is still to be reported
  pub fault : Bool
  -- where those bytes are that were last said to be no UTF-8
  pub error_at : Option ℕ
  -- a text was lost to a failed call
  pub lost : Bool
  -- how many bytes may be held
  pub limit : ℕ
  -- how many bytes of text came since all was read and nothing was open
  pub unsettled : ℕ

-- nothing was taken yet
abbrev pub nothing_taken : IntakeOf
nothing_taken = record {
  decoder = record { held = []; taken = 0 };
  page = None;
  text = [];
  fault = false;
  error_at = None;
  lost = false;
  limit = 2 ^ 64 - 1;
  unsettled = 0;
}

-- ---- pages that are decoded

abbrev pub is_decoding : IntakeOf → Bool
is_decoding i = is_some i.page

-- the encoding, once it is known
abbrev pub encoding_known : IntakeOf → Option Encoding
encoding_known i = option_and_then (λ d. option_map (λ known. known.encoding) d.known) i.page

-- the decoder of another page, if this one has one
abbrev pub page_again : IntakeOf → Option PageDecoding
page_again i = option_map (λ d. page_start d.said d.fallback) i.page

-- no byte was taken as UTF-8
pub record IsUtf8Unbegun (i : IntakeOf) : Type 0 where
  pub none_held : i.decoder.held ≡ []
  pub none_taken : i.decoder.taken ≡ 0
  pub no_fault : i.fault ≡ false
  pub none_said : i.error_at ≡ None

abbrev pub IsUnbegunBy : Option PageDecoding → IntakeOf → Type 0
IsUnbegunBy None i = IsUtf8Unbegun i
IsUnbegunBy (Some d) i = page.IsUnbegun d

-- no byte was taken
abbrev pub IsUnbegun : IntakeOf → Type 0
IsUnbegun i = IsUnbegunBy i.page i

abbrev pub IsCompleteBy : Option PageDecoding → List ℕ → Type 0
IsCompleteBy None held = held ≡ []
IsCompleteBy (Some d) held = d.ended ≡ true

-- the bytes end with a whole character or, where a page is decoded, were ended
abbrev pub IsComplete : IntakeOf → Type 0
IsComplete i = IsCompleteBy i.page i.decoder.held

abbrev pub EndsWithinBy : Option PageDecoding → List ℕ → Type 0
EndsWithinBy None held = ¬ (held ≡ [])
EndsWithinBy (Some d) held = ⊥

-- The bytes so far end within a character, which is incomplete unless more come. Of a page that is decoded none do: what is begun gives
-- U+FFFD.
abbrev pub EndsWithin : IntakeOf → Type 0
EndsWithin i = EndsWithinBy i.page i.decoder.held

abbrev pub IsTextSoFarBy : Option PageDecoding → List ℕ → List NamedReference → List ℕ → List ℕ → Type 0
IsTextSoFarBy None held references bytes text = bytes ≡ text ++ held
IsTextSoFarBy (Some d) held references bytes text =
    (rest : List ℕ) → text_of_page references d.said d.fallback (bytes ++ rest) ≡ text ++ text_with references d rest

-- Where these bytes were taken, this text of them came: the held bytes may begin a character. Where a page is decoded it is the front of
-- the page's text, whatever follows.
abbrev pub IsTextSoFar : List NamedReference → IntakeOf → List ℕ → List ℕ → Type 0
IsTextSoFar references i bytes text = IsTextSoFarBy i.page i.decoder.held references bytes text

abbrev pub whole_text_by : Option PageDecoding → List NamedReference → List ℕ → List ℕ
whole_text_by None references bytes = bytes
whole_text_by (Some d) references bytes = text_of_page references d.said d.fallback bytes

-- the text of all bytes of a page: these bytes or, where a page is decoded, what they decode to by its encoding
abbrev pub whole_text : List NamedReference → IntakeOf → List ℕ → List ℕ
whole_text references i bytes = whole_text_by i.page references bytes

-- ---- room

-- how many bytes are held of a page whose encoding isn't known yet
abbrev pub held_of : Option PageDecoding → ℕ
held_of None = 0
held_of (Some d) = length d.held

-- how many bytes are held where this many wait in the sink and that many more come, as a u64 counts
abbrev pub held_with : IntakeOf → ℕ → ℕ → ℕ
held_with i waiting more = place_after (place_after (place_after i.unsettled (held_of i.page)) waiting) more

-- they are within the limit
abbrev pub has_room : IntakeOf → ℕ → ℕ → Bool
has_room i waiting more = nat_le (held_with i waiting more) i.limit

-- ---- pieces

-- what was held and a piece are a text, and then bytes that may begin a character, which are held
pub record Completes (old new : Decoding) (bytes text : List ℕ) : Type 0 where
  pub parts : old.held ++ bytes ≡ text ++ new.held
  pub utf8 : IsUtf8 text
  pub cut : IsCutCharacter new.held
  pub taken : new.taken ≡ place_after old.taken (length text)

-- this text comes after the waiting text
abbrev pub gains : IntakeOf → List ℕ → IntakeOf
gains i text = record i { text = i.text ++ chars text; unsettled = place_after i.unsettled (length text) }

-- and this one in front of it
abbrev pub gains_front : IntakeOf → List ℕ → IntakeOf
gains_front i text = record i { text = chars text ++ i.text; unsettled = place_after i.unsettled (length text) }

-- what a call hands in: bytes of the page, or word that there are no more
pub data Piece : Type 0 where
  Bytes : List ℕ → Piece
  TheEnd : Piece

-- what is taken of these bytes: this text
pub data TakesBytes (references : List NamedReference) (old new : IntakeOf) (bytes text : List ℕ) : Type 0 where
  -- the whole piece, with the text that it completes
  Whole : old.page ≡ None → old.fault ≡ false → Completes old.decoder new.decoder bytes text → new ≡ record (gains old text) { decoder = new.decoder }
      → TakesBytes references old new bytes text
  -- its front, up to bytes that are not UTF-8, whatever follows: that is still to be reported
  Front : old.page ≡ None → old.fault ≡ false → IsNeverUtf8 (old.decoder.held ++ bytes)
      → EndsAtFault old.decoder new.decoder (old.decoder.held ++ bytes) text
      → new ≡ record (gains old text) { decoder = new.decoder; fault = true } → TakesBytes references old new bytes text
  -- nothing, while the fault of an earlier piece is still to be reported
  Nothing : old.page ≡ None → old.fault ≡ true → text ≡ [] → new ≡ old → TakesBytes references old new bytes text
  -- where a page is decoded all of it, with the text that is decided by it
  InPage : (before after : PageDecoding) → old.page ≡ Some before → old.fault ≡ false → GoesOn references before after bytes text → IsUtf8 text
      → new ≡ record (gains old text) { page = Some after } → TakesBytes references old new bytes text

-- what is taken at the end of the bytes: this text
pub data TakesRest (references : List NamedReference) (old new : IntakeOf) (text : List ℕ) : Type 0 where
  NoRest : old.page ≡ None → text ≡ [] → new ≡ old → TakesRest references old new text
  -- where a page is decoded, the rest of its text
  Rest : (before : PageDecoding) → old.page ≡ Some before → old.fault ≡ false → text ≡ text_with references before [] → IsUtf8 text
      → new ≡ record (gains old text) { page = Some (anew references before) } → TakesRest references old new text

-- what is taken of a piece: this text
abbrev pub Takes : List NamedReference → IntakeOf → IntakeOf → Piece → List ℕ → Type 0
Takes references old new (Bytes bytes) text = TakesBytes references old new bytes text
Takes references old new TheEnd text = TakesRest references old new text

-- bytes were decoded as UTF-8, or their front, to this text: it is still to come after the waiting text
pub data Decoded (old new : IntakeOf) (bytes text : List ℕ) : Type 0 where
  All : Completes old.decoder new.decoder bytes text → new ≡ record old { decoder = new.decoder } → Decoded old new bytes text
  UpToFault : IsNeverUtf8 (old.decoder.held ++ bytes) → EndsAtFault old.decoder new.decoder (old.decoder.held ++ bytes) text
      → new ≡ record old { decoder = new.decoder; fault = true } → Decoded old new bytes text

-- a piece was taken, or its front
pub record TakesPiece (references : List NamedReference) (old new : IntakeOf) (piece : Piece) : Type 0 where
  pub text : List ℕ
  pub takes : Takes references old new piece text

-- a piece was refused, out of memory: it changed nothing, or it was lost, and nothing of it waits
abbrev pub PieceRefused : IntakeOf → IntakeOf → Type 0
PieceRefused old new = (new ≡ old) ⊎ (new.lost ≡ true)

-- ---- faults

-- the fault is reported, at the place up to which the bytes were taken
abbrev pub fault_said : IntakeOf → IntakeOf
fault_said i = record i { fault = false; error_at = Some i.decoder.taken }
