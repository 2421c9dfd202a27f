-- What is known of a piece that was looked at. These are words of the proofs: no promise to callers is made of them.
use Rattle.std.specs.Prelude.{◌≡◌, Bool, true, None}
use Rattle.html5write.specs.Refusals.{refusal_of}
use Rattle.html5write.specs.Runs.{IsPlainText}
use Rattle.html5write.specs.Writing.{piece_of}
use Rattle.html5write.specs.declared.piece.Piece.{Piece}
use Rattle.html5write.specs.declared.piece.Piece.TheVariants.{Text, StartTag, EndTag, Comment}

-- the piece is a text that is written as it is
abbrev pub IsPlainPiece : Piece → Type 0
IsPlainPiece (Text text) = IsPlainText text.now
IsPlainPiece (StartTag name attributes) = ⊥
IsPlainPiece (EndTag name) = ⊥
IsPlainPiece (Comment text) = ⊥

pub record IsLookedAt (piece : Piece) (is_plain : Bool) : Type 0 where
  pub writable : refusal_of (piece_of piece) ≡ None
  pub plain : is_plain ≡ true → IsPlainPiece piece
