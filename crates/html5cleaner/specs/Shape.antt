-- How the elements of a cleaned page are nested.
use Rattle.std.specs.Prelude.{ℕ, Bool, true, false, List, [], ◌∷◌, ◌++◌, chars, map, if◌then◌else◌}
use Rattle.html5policy.specs.Policy.{PolicyOf}
use Rattle.html5tree.specs.Items.{Attribute, Item}
use Rattle.html5tree.specs.Items.Item.{StartTag, EndTag, Text}
use Rattle.html5tree.specs.Normal.{fitted, open_after_fitted}
use Rattle.html5write.specs.Pieces.{NameAndValue, Piece}
use Rattle.html5write.specs.Pieces.Piece.{TextPiece, StartTagPiece, EndTagPiece}

pub data Shape : Type 0 where
  -- as they are kept
  AsKept : Shape
  -- each end tag closes the innermost open element, and at the end of the page none is open
  Balanced : Shape
  -- a browser builds them so, and no more than this many are open
  Tree : (limit : ℕ) → Shape

-- with the rule `balance`, and without it
abbrev pub shape_by_balance : Bool → Shape
shape_by_balance true = Balanced
shape_by_balance false = AsKept

abbrev pub shape_of : PolicyOf → Shape
shape_of policy = if policy.tree then Tree policy.depth else shape_by_balance policy.balance

-- ---- items that fit, as pieces

abbrev pub attribute_in : Attribute → NameAndValue
attribute_in a = record { name = chars a.name; value = chars a.value }

abbrev pub piece_in : Item → Piece
piece_in (Text text) = TextPiece (chars text)
piece_in (StartTag name attributes) = StartTagPiece (chars name) (map attribute_in attributes)
piece_in (EndTag name) = EndTagPiece (chars name)

abbrev pub pieces_in : List Item → List Piece
pieces_in items = map piece_in items

-- what the normaliser writes for items, where these elements are open before them
unfoldable pub all_fitted : ℕ → List (List ℕ) → List Item → List Item
all_fitted limit opened [] = []
all_fitted limit opened (item ∷ items) = fitted limit opened item ++ all_fitted limit (open_after_fitted limit opened item) items

-- and the elements that are open after them
unfoldable pub open_after_all : ℕ → List (List ℕ) → List Item → List (List ℕ)
open_after_all limit opened [] = opened
open_after_all limit opened (item ∷ items) = open_after_all limit (open_after_fitted limit opened item) items
