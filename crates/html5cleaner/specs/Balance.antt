-- What is written of the pieces that a policy keeps. By the rule `balance` each end tag closes the innermost open element, and at the end of
-- the page none is open; by the rule `tree` they are made to fit, too. The open elements are their names, in characters, innermost first; those
-- of a tree are of ASCII, so that their bytes are the same.
use Rattle.std.specs.Prelude.{◌≡◌, ℕ, Bool, true, false, List, [], ◌∷◌, ◌++◌, ◌&&◌, drop, map, take, encode_utf8_all, if◌then◌else◌}
use Rattle.std.specs.List.{list_all}
use Rattle.std.specs.Str.{bytes_eq}
use Rattle.html5ever_interface.specs.Token.{Told}
use Rattle.html5ever_interface.specs.Token.Told.{End}
use Rattle.html5write.specs.Pieces.{Piece}
use Rattle.html5write.specs.Pieces.Piece.{TextPiece, StartTagPiece, EndTagPiece, CommentPiece}
use Rattle.html5policy.specs.Policy.{PolicyOf}
use Rattle.html5cleaner.specs.Allowed.{is_clean}
use Rattle.html5elements.specs.Elements.{is_void}
use Rattle.html5cleaner.specs.Open.{closed_by}
use Rattle.html5cleaner.specs.Shape.{Shape, all_fitted, open_after_all, pieces_in}
use Rattle.html5cleaner.specs.Shape.Shape.{AsKept, Balanced, Tree}
use Rattle.html5nested.specs.PageItems.{items_of}

-- ---- a piece

-- the elements that are open after a piece that is kept
unfoldable pub open_after : List (List ℕ) → Piece → List (List ℕ)
open_after opened (StartTagPiece name attributes) = if is_void (encode_utf8_all name) then opened else name ∷ opened
open_after opened (EndTagPiece name) = drop (closed_by opened name) opened
open_after opened other = opened

abbrev pub end_tags : List (List ℕ) → List Piece
end_tags names = map EndTagPiece names

-- what is written of it: for an end tag the end tags of all elements that it closes
unfoldable pub balanced : List (List ℕ) → Piece → List Piece
balanced opened (EndTagPiece name) = end_tags (take (closed_by opened name) opened)
balanced opened other = other ∷ []

-- ---- the pieces of a token

unfoldable pub all_open_after : List (List ℕ) → List Piece → List (List ℕ)
all_open_after opened [] = opened
all_open_after opened (piece ∷ pieces) = all_open_after (open_after opened piece) pieces

unfoldable pub all_balanced : List (List ℕ) → List Piece → List Piece
all_balanced opened [] = []
all_balanced opened (piece ∷ pieces) = balanced opened piece ++ all_balanced (open_after opened piece) pieces

abbrev pub is_end : Told → Bool
is_end End = true
is_end other = false

-- the end closes what is still open
abbrev pub closed_at_end : Bool → List (List ℕ) → List Piece
closed_at_end ends opened = if ends then end_tags opened else []

-- what is written of pieces that are kept, where the page may end after them: as they are, balanced, or made to fit
unfoldable pub written_by : Shape → Bool → List (List ℕ) → List Piece → List Piece
written_by AsKept ends opened pieces = pieces
written_by Balanced ends opened pieces = all_balanced opened pieces ++ closed_at_end ends (all_open_after opened pieces)
written_by (Tree limit) ends opened pieces =
    pieces_in (all_fitted limit opened (items_of pieces)) ++ closed_at_end ends (open_after_all limit opened (items_of pieces))

-- the elements that are open after them
unfoldable pub open_by : Shape → Bool → List (List ℕ) → List Piece → List (List ℕ)
open_by AsKept ends opened pieces = opened
open_by Balanced ends opened pieces = if ends then [] else all_open_after opened pieces
open_by (Tree limit) ends opened pieces = if ends then [] else open_after_all limit opened (items_of pieces)

-- ---- a page that is balanced

-- whether the innermost open element has this name
abbrev pub is_innermost : List (List ℕ) → List ℕ → Bool
is_innermost [] name = false
is_innermost (inner ∷ opened) name = bytes_eq inner name

abbrev pub none_open : List (List ℕ) → Bool
none_open [] = true
none_open (inner ∷ opened) = false

-- whether each end tag closes the innermost open element, and none is open at the end, where these are open before the pieces
unfoldable pub is_nested : List (List ℕ) → List Piece → Bool
is_nested opened [] = none_open opened
is_nested opened (StartTagPiece name attributes ∷ pieces) = is_nested (if is_void (encode_utf8_all name) then opened else name ∷ opened) pieces
is_nested opened (EndTagPiece name ∷ pieces) = is_innermost opened name && is_nested (drop 1 opened) pieces
is_nested opened (TextPiece text ∷ pieces) = is_nested opened pieces
is_nested opened (CommentPiece text ∷ pieces) = is_nested opened pieces

-- the same policy without the rule
abbrev pub without_balance : PolicyOf → PolicyOf
without_balance policy = record policy { balance = false }

-- the same policy without the rule `tree`, and without `balance`: it writes what it keeps as it is
abbrev pub without_tree : PolicyOf → PolicyOf
without_tree policy = record policy { tree = false; balance = false }

-- the same policy, by which this many elements may be open
abbrev pub with_depth : ℕ → PolicyOf → PolicyOf
with_depth depth policy = record policy { depth = depth }

-- the pieces that are no end tags
abbrev pub is_no_end_tag : Piece → Bool
is_no_end_tag (EndTagPiece name) = false
is_no_end_tag other = true

-- the pieces that were written are clean, and so are the end tags of the elements that are open
pub record AreClean (policy : PolicyOf) (pieces : List Piece) (opened : List (List ℕ)) : Type 0 where
  pub written : list_all (is_clean policy) pieces ≡ true
  pub closing : list_all (is_clean policy) (end_tags opened) ≡ true
