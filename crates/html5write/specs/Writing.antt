-- The pieces that a program names, in characters.
use Rattle.std.specs.Prelude.{◌≡◌, ℕ, true, false, List, [], ◌∷◌, ◌++◌, map, chars, encode_utf8, encode_utf8_all, Result, Err, OnOk, OnErr, IsOkUnless, None, Some}
use Rattle.std.specs.List.{list_all}
use Rattle.html5ever_interface.specs.Token.{Told, TagOf}
use Rattle.html5ever_interface.specs.Token.Told.{Text as ToldText, Tag as ToldTag, Comment as ToldComment}
use Rattle.html5ever_interface.specs.declared.interface.token.TagKind.{TagKind}
use Rattle.html5ever_interface.specs.declared.interface.token.TagKind.TheVariants as kind
use Rattle.html5reading.specs.Tag.{attribute}
use Rattle.markup5ever.specs.Names.{AttributeOf}
use Rattle.html5write.specs.Pieces.{NameAndValue, Piece, pieces_text, can_write}
use Rattle.html5write.specs.Pieces.Piece.{TextPiece, StartTagPiece, EndTagPiece, CommentPiece}
use Rattle.html5write.specs.Refusals.{refusal_of}
use Rattle.html5write.specs.declared.error.WriteError.{WriteError}
use Rattle.html5write.specs.declared.error.WriteError.TheVariants.{Memory}
use Rattle.html5write.specs.declared.piece.Attribute.{Attribute}
use Rattle.html5write.specs.declared.piece.Piece.{Piece as RustPiece}
use Rattle.html5write.specs.declared.piece.Piece.TheVariants.{Text, StartTag, EndTag, Comment}

abbrev pub attribute_of : Attribute → NameAndValue
attribute_of a = record { name = chars a.name.now; value = chars a.value.now }

abbrev pub piece_of : RustPiece → Piece
piece_of (Text text) = TextPiece (chars text.now)
piece_of (StartTag name attributes) = StartTagPiece (chars name.now) (map attribute_of attributes.now)
piece_of (EndTag name) = EndTagPiece (chars name.now)
piece_of (Comment text) = CommentPiece (chars text.now)

-- these bytes are the page of these pieces, which can all be written
pub record IsTextOf (bytes : List ℕ) (pieces : List Piece) : Type 0 where
  pub text : bytes ≡ encode_utf8_all (pieces_text pieces)
  pub can : list_all can_write pieces ≡ true

-- what a call that writes a piece answers, where these pieces stood before it and those stand after it
pub record Writes (result : Result (Unit {0}) WriteError) (before after : List Piece) (piece : Piece) : Type 0 where
  -- the piece stands last
  pub written : OnOk result (after ≡ before ++ piece ∷ [])
  -- nothing was written
  pub unchanged : OnErr result (after ≡ before)
  -- a piece that can't be written is refused with its error
  pub refused : (error : WriteError) → refusal_of piece ≡ Some error → result ≡ Err error
  -- and another only where memory is
  pub memory : refusal_of piece ≡ None → IsOkUnless result Memory

-- what a call that writes two pieces answers
pub record WritesBoth (result : Result (Unit {0}) WriteError) (before after : List Piece) (first second : Piece) : Type 0 where
  -- they stand last, in this order
  pub written : OnOk result (after ≡ (before ++ first ∷ []) ++ second ∷ [])
  -- nothing was written
  pub unchanged : OnErr result (after ≡ before)
  -- where one can't be written, both are refused with the error of the first such one
  pub refused_first : (error : WriteError) → refusal_of first ≡ Some error → result ≡ Err error
  pub refused_second : (error : WriteError) → refusal_of first ≡ None → refusal_of second ≡ Some error → result ≡ Err error
  -- and otherwise only where memory is
  pub memory : refusal_of first ≡ None → refusal_of second ≡ None → IsOkUnless result Memory

-- ---- what is sent of a piece, in the very bytes that were handed in

abbrev pub attribute_said : Attribute → AttributeOf
attribute_said a = attribute a.name.now a.value.now

abbrev pub tag_said : TagKind → List ℕ → List Attribute → TagOf
tag_said kind name attributes = record { kind = kind; name = name; self_closing = false; attributes = map attribute_said attributes; had_duplicate_attributes = false }

abbrev pub tokens_said : RustPiece → List Told
tokens_said (Text text) = map (λ c. ToldText (encode_utf8 c)) (chars text.now)
tokens_said (StartTag name attributes) = ToldTag (tag_said kind.StartTag name.now attributes.now) ∷ []
tokens_said (EndTag name) = ToldTag (tag_said kind.EndTag name.now []) ∷ []
tokens_said (Comment text) = ToldComment text.now ∷ []
