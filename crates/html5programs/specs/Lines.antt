-- Bytes that come in pieces, and the lines that they are on.
use Rattle.std.specs.Prelude.{◌≡◌, ◌<◌, ◌^◌, ℕ, List, ◌++◌, false, length, take}
use Rattle.decoded_source.specs.Lines.{line_ends}

-- the last piece, and what came before it
pub record Pieces : Type 0 where
  pub before : List ℕ
  pub last : List ℕ

-- a place is in the last piece, or before it, and no line ends between
pub record IsNear (place : ℕ) (pieces : Pieces) : Type 0 where
  pub few : length (pieces.before ++ pieces.last) < 2 ^ 64
  pub same_line : line_ends false (take place pieces.before) ≡ line_ends false pieces.before
