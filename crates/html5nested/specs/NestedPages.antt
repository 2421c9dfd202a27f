-- What a nested writer is: the pieces that were written, and the open elements.
use Rattle.std.specs.Prelude.{◌≡◌, ℕ, true, List, [], ◌∷◌, ◌++◌, Result, OnErr, OnOk}
use Rattle.html5tree.specs.Items.{Item}
use Rattle.html5tree.specs.Normal.{fitted, normal, normal_above, open_after_fitted}
use Rattle.html5write.specs.Pieces.{Piece}
use Rattle.html5write.specs.declared.error.WriteError.{WriteError}
use Rattle.html5nested.specs.Adding.{Adds}
use Rattle.html5nested.specs.PageItems.{has_no_comment, items_of}

pub record NestedPage : Type 0 where
  pub pieces : List Piece
  -- the names of the open elements, innermost first
  pub opened : List (List ℕ)
  -- how many may be open
  pub limit : ℕ

-- nothing was written yet
abbrev pub nothing_written : ℕ → NestedPage
nothing_written limit = record { pieces = []; opened = []; limit = limit }

-- These items were handed in: with what will be written for those that may follow, the page has what the normaliser makes of all.
pub record IsMadeOf (page : NestedPage) (items : List Item) : Type 0 where
  pub made : (more : List Item) → items_of page.pieces ++ normal_above page.limit page.opened more ≡ normal page.limit (items ++ more)
  pub no_comment : has_no_comment page.pieces ≡ true

-- What a call that hands in an item answers.
pub record Nests (result : Result (Unit {0}) WriteError) (before after : NestedPage) (item : Item) : Type 0 where
  -- what the normaliser writes for it stands last
  pub added : OnOk result (Adds before.pieces after.pieces (fitted before.limit before.opened item))
  pub opened : OnOk result (after.opened ≡ open_after_fitted before.limit before.opened item)
  pub limit : after.limit ≡ before.limit
  -- and it was handed in after those before it
  pub made : OnOk result ((items : List Item) → IsMadeOf before items → IsMadeOf after (items ++ item ∷ []))
  -- nothing was written, and the same elements are open
  pub unchanged : OnErr result (after ≡ before)

-- a page at its end: its items are what the normaliser makes of these
pub record IsFinished (limit : ℕ) (pieces : List Piece) (items : List Item) : Type 0 where
  pub made : items_of pieces ≡ normal limit items
  pub no_comment : has_no_comment pieces ≡ true
