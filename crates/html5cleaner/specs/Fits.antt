-- Pieces that fit in the tree of a page: they are written as they are.
use Rattle.std.specs.Prelude.{◌≡◌, ℕ, false, List, [], ◌∷◌, ◌++◌, drop}
use Rattle.html5tree.specs.ElementNames.{name_of}
use Rattle.html5tree.specs.Items.Item.{StartTag}
use Rattle.html5tree.specs.Nested.{Nested}
use Rattle.html5tree.specs.Normal.{open_after_fitted}
use Rattle.html5write.specs.Pieces.{Piece}
use Rattle.html5cleaner.specs.Balance.{open_by, written_by}
use Rattle.html5cleaner.specs.Shape.Shape.{Tree}
use Rattle.html5cleaner.specs.declared.fitting.Fit.{Fit}
use Rattle.html5cleaner.specs.declared.fitting.Fit.TheVariants.{Unfit, Stays, Opens, Closes}

-- where these elements are open, these pieces are written as they are, and leave those open
pub record Fits (limit : ℕ) (opened : List (List ℕ)) (pieces : List Piece) (after : List (List ℕ)) : Type 0 where
  pub written : written_by (Tree limit) false opened pieces ≡ pieces
  pub opened_after : open_by (Tree limit) false opened pieces ≡ after

-- the same of pieces that come before others, and open and close nothing
pub record ComesFirst (nested : Nested) (pieces : List Piece) : Type 0 where
  pub written : (later : List Piece) → written_by (Tree nested.limit) false nested.opened (pieces ++ later)
      ≡ pieces ++ written_by (Tree nested.limit) false nested.opened later
  pub opened_after : (later : List Piece) → open_by (Tree nested.limit) false nested.opened (pieces ++ later)
      ≡ open_by (Tree nested.limit) false nested.opened later

-- what pieces do with the open elements, if they fit
abbrev pub IsFit : Fit → Nested → List Piece → Type 0
IsFit Unfit nested pieces = Unit {0}
IsFit Stays nested pieces = Fits nested.limit nested.opened pieces nested.opened
IsFit (Opens name) nested pieces =
    Fits nested.limit nested.opened pieces (name_of name ∷ nested.opened)
    × (open_after_fitted nested.limit nested.opened (StartTag (name_of name) []) ≡ name_of name ∷ nested.opened)
IsFit Closes nested pieces = Fits nested.limit nested.opened pieces (drop 1 nested.opened)
