-- Cutting a text between characters.
use Rattle.std.proofs.Common.{◌≡◌, ℕ, ◌+◌, ◌-◌, ◌≤◌, List, ◌++◌, length, take, drop, encode_utf8, refl, sym, ap, ◌∙◌, arith}
use Rattle.std.specs.Char.{len_utf8}
use Rattle.std.specs.Str.{IsUtf8, IsCharBoundary}
use Rattle.std.proofs.lemmas.List.{length-drop, drop-drop}
use Rattle.std.proofs.lemmas.Str.{drop_past_char, IsUtf8-take, IsUtf8-drop, IsCharBoundary-from_drop, IsCharBoundary-past_char}

-- a place between two characters of the text
pub record IsCut (text : List ℕ) (at_byte : ℕ) : Type 0 where
  pub within : at_byte ≤ length text
  pub rest_utf8 : IsUtf8 (drop at_byte text)

pub IsCut-start : (text : List ℕ) → IsUtf8 text → IsCut text 0
IsCut-start text utf8 = record { within = omega arith; rest_utf8 = utf8 }

pub IsCut-step : (text rest : List ℕ) (len c width : ℕ) → IsUtf8 text → IsCut text len → drop len text ≡ encode_utf8 c ++ rest → width ≡ len_utf8 c
    → IsCut text (len + width) × (rest ≡ drop (len + width) text)
IsCut-step text rest len c width utf8 cut e measured =
    let afterwards : drop (len + len_utf8 c) text ≡ rest = drop_past_char text rest len c e in
    let boundary : IsCharBoundary text (len + len_utf8 c) = IsCharBoundary-past_char text rest len c cut.within cut.rest_utf8 e in
    rw measured (record { within = boundary.0; rest_utf8 = IsUtf8-drop text (len + len_utf8 c) utf8 boundary }, sym afterwards)

pub IsCut-front : (text : List ℕ) (at_byte : ℕ) → IsUtf8 text → IsCut text at_byte → IsUtf8 (take at_byte text)
IsCut-front text at_byte utf8 cut = IsUtf8-take text at_byte utf8 (IsCharBoundary-from_drop text at_byte cut.within cut.rest_utf8)

-- a place in the text after a cut is a place of the whole text
pub IsCut-further : (text rest : List ℕ) (start len : ℕ) → IsCut text start → rest ≡ drop start text → len ≤ length rest → IsUtf8 (drop len rest)
    → IsCut text (start + len)
IsCut-further text rest start len cut e within utf8 = record {
  within = omega (arith, cut.within, within, ap length e, length-drop start text);
  rest_utf8 = rw (← drop-drop len start text, ← e) utf8;
}

pub IsCut-boundary : (text : List ℕ) (at_byte : ℕ) → IsCut text at_byte → IsCharBoundary text at_byte
IsCut-boundary text at_byte cut = IsCharBoundary-from_drop text at_byte cut.within cut.rest_utf8

-- the bytes from a place on, up to a place between two characters
pub record IsPiece (text : List ℕ) (start len : ℕ) (piece : List ℕ) : Type 0 where
  pub cut : IsCut text (start + len)
  pub is : piece ≡ take len (drop start text)

-- a piece that was sliced off the text
pub IsPiece-sliced : (text rest slice piece : List ℕ) (start len : ℕ) → IsCut text start
    → rest ≡ drop start text → len ≤ length rest → IsUtf8 (drop len rest)
    → slice ≡ take ((start + len) - start) (drop start text) → piece ≡ slice
    → IsPiece text start len piece
IsPiece-sliced text rest slice piece start len cut is_rest within utf8 sliced same =
    let width : (start + len) - start ≡ len = omega arith in
    record {
      cut = IsCut-further text rest start len cut is_rest within utf8;
      is = same ∙ sliced ∙ rw width refl;
    }
