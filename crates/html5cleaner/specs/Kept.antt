-- Kept pieces, as code has them.
use Rattle.std.specs.Prelude.{◌≡◌, ℕ, Bool, List, [], ◌∷◌, ◌++◌, Option, None, Some, Result, IfOk, OnErr, OnOk, drop, if◌then◌else◌}
use Rattle.html5write.specs.Pieces.{Piece}
use Rattle.html5write.specs.Writing.{piece_of}
use Rattle.html5write.specs.declared.error.WriteError.{WriteError}
use Rattle.html5write.specs.declared.piece.Piece.{Piece as RustPiece}
use Rattle.html5cleaner.specs.declared.balance.Change.{Change}
use Rattle.html5cleaner.specs.declared.opened.Opened.{Opened}
use Rattle.html5cleaner.specs.declared.opened.Pending.{Pending}
use Rattle.html5cleaner.specs.Settled.{names_in, settled, undone}
use Rattle.html5cleaner.specs.Shape.{Shape, all_fitted, open_after_all}
use Rattle.html5nested.specs.Adding.{Adds}
use Rattle.html5tree.specs.Items.{Item}
use Rattle.html5tree.specs.Nested.{Nested}
use Rattle.html5tree.specs.Normal.{IsReady, end_tags}

-- a piece, if there is one
abbrev pub piece_where : Option RustPiece → List Piece
piece_where None = []
piece_where (Some piece) = piece_of piece ∷ []

-- the answer of a call that writes kept pieces, where these pieces stood before and after it, and these elements were open: it wrote
-- `pieces`, and `elements` are open afterwards; after an error nothing is changed
pub record Keeps (result : Result Change WriteError) (before after : List Piece) (was now : List (List ℕ)) (pieces : List Piece) (elements : List (List ℕ)) : Type 0 where
  pub written : OnOk result (after ≡ before ++ pieces)
  -- closing this many of the open elements takes the step back, or completes it
  pub undone : IfOk result (λ change. drop change.undo now ≡ was)
  pub done : IfOk result (λ change. drop change.close now ≡ elements)
  pub unchanged : OnErr result (after ≡ before)
  pub unopened : OnErr result (now ≡ was)

-- the answer of a call that writes kept pieces, by the shape of the page: it wrote `pieces`, and `elements` are open once that is
-- settled; after an error nothing is changed
pub record Settles {Z : Type 0} (shape : Shape) (result : Result Pending WriteError) (before after : List Piece) (was now : Opened Z) (pieces : List Piece) (elements : List (List ℕ)) : Type 0 where
  pub written : OnOk result (after ≡ before ++ pieces)
  pub taken_back : IfOk result (λ pending. names_in shape (undone pending now) ≡ names_in shape was)
  pub done : IfOk result (λ pending. names_in shape (settled pending now) ≡ elements)
  pub unchanged : OnErr result (after ≡ before)
  pub unopened : OnErr result (names_in shape now ≡ names_in shape was)
  -- as many elements may be open as before
  pub limit_undone : IfOk result (λ pending. (undone pending now).tree.limit ≡ was.tree.limit)
  pub limit_done : IfOk result (λ pending. (settled pending now).tree.limit ≡ was.tree.limit)
  pub limit_unopened : OnErr result (now.tree.limit ≡ was.tree.limit)

-- what a call that writes pieces made to fit answers, where these elements were open and those are: what is written for these items
pub record AddsAll (before after : List Piece) (was now : Nested) (items : List Item) : Type 0 where
  pub added : Adds before after (all_fitted was.limit was.opened items)
  pub opened : now.opened ≡ open_after_all was.limit was.opened items
  pub limit : now.limit ≡ was.limit

abbrev pub ends_where : Bool → List (List ℕ) → List Item
ends_where ends opened = if ends then end_tags opened else []

-- the same, where the page may end after them
pub record AddsLast (before after : List Piece) (was now : Nested) (ends : Bool) (items : List Item) : Type 0 where
  pub added : Adds before after (all_fitted was.limit was.opened items ++ ends_where ends (open_after_all was.limit was.opened items))
  pub opened : now.opened ≡ (if ends then [] else open_after_all was.limit was.opened items)
  pub limit : now.limit ≡ was.limit
  -- the open elements were right for the normaliser
  pub ready : IsReady was.limit was.opened
