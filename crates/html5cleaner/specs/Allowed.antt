-- Which pieces of a page a policy allows.
use Rattle.std.specs.Prelude.{ℕ, Bool, true, false, not, List, ◌&&◌, encode_utf8_all}
use Rattle.std.specs.List.{list_all}
use Rattle.html5policy.specs.Policy.{PolicyOf, is_allowed, is_kept, is_written}
use Rattle.html5write.specs.Pieces.{NameAndValue, Piece, can_write}
use Rattle.html5write.specs.Pieces.Piece.{TextPiece, StartTagPiece, EndTagPiece, CommentPiece}
use Rattle.html5elements.specs.Elements.{is_void}

-- in an element of this name
abbrev pub is_kept_attribute : PolicyOf → List ℕ → NameAndValue → Bool
is_kept_attribute policy element a = is_kept policy (encode_utf8_all element) (encode_utf8_all a.name) (encode_utf8_all a.value)

-- one that is kept, or that the policy writes into links
abbrev pub is_written_attribute : PolicyOf → List ℕ → NameAndValue → Bool
is_written_attribute policy element a = is_written policy (encode_utf8_all element) (encode_utf8_all a.name) (encode_utf8_all a.value)

-- text, a start tag with attributes that are kept or written, and an end tag; no comment
unfoldable pub is_allowed_piece : PolicyOf → Piece → Bool
is_allowed_piece policy (TextPiece text) = true
is_allowed_piece policy (StartTagPiece name attributes) =
    is_allowed policy (encode_utf8_all name) && list_all (is_written_attribute policy name) attributes
is_allowed_piece policy (EndTagPiece name) = is_allowed policy (encode_utf8_all name) && not (is_void (encode_utf8_all name))
is_allowed_piece policy (CommentPiece text) = false

-- a piece of a cleaned page: it is allowed, and can be written
abbrev pub is_clean : PolicyOf → Piece → Bool
is_clean policy piece = is_allowed_piece policy piece && can_write piece
