-- What is written to fit fits, piece by piece.
use Rattle.std.proofs.Common.{◌≡◌, ℕ, ◌≤◌, Bool, true, false, List, [], ◌∷◌, ◌++◌, length, refl, ap, sym, ◌∙◌, subst}
use Rattle.std.specs.Prelude.{encode_utf8_all}
use Rattle.html5nested.specs.PageItems.{has_no_comment, items_of, items_of_piece}
use Rattle.html5tree.specs.Fitting.{open_after}
use Rattle.html5tree.specs.Items.{Item}
use Rattle.html5tree.specs.Items.Item.{EndTag, StartTag, Text}
use Rattle.html5tree.specs.Normal as normal
use Rattle.html5tree.specs.Normal.{IsReady, fitted, open_after_fitted}
use Rattle.html5tree.proofs.Normalising.{closed-fitting, item-fitting, none-ready, ready-after}
use Rattle.html5tree.proofs.RightPlans.{IsFitting, fitting-append}
use Rattle.html5tree.proofs.RightPlans.IsFitting.{Done, Next}
use Rattle.html5write.specs.Pieces.{Piece}
use Rattle.html5write.specs.Pieces.Piece.{TextPiece, StartTagPiece, EndTagPiece, CommentPiece}
use Rattle.html5cleaner.specs.Balance.{end_tags, open_by, written_by}
use Rattle.html5cleaner.specs.Shape.{all_fitted, open_after_all, piece_in, pieces_in}
use Rattle.html5cleaner.specs.Shape.Shape.{Tree}
use Rattle.html5cleaner.proofs.Balancing.{AllGo, Goes, go-append}
use Rattle.html5cleaner.proofs.FittedItems.{AllOf, of-all}
use Rattle.html5cleaner.proofs.ItemPieces.{IsSame, ends-same, same-closed, same-open, same-pieces}

module _ (limit : ℕ) where
  -- ---- items

  pub fitted-fit : (stack : List (List ℕ)) (items : List Item) → IsReady limit stack
      → IsFitting limit stack (all_fitted limit stack items) (open_after_all limit stack items) × IsReady limit (open_after_all limit stack items)
  unfolding all_fitted open_after_all
  fitted-fit stack [] ready = (Done, ready)
  fitted-fit stack (item ∷ items) ready =
      let next : List (List ℕ) = open_after_fitted limit stack item in
      let later = fitted-fit next items (ready-after limit stack item ready) in
      (fitting-append limit stack next (open_after_all limit next items) (fitted limit stack item) (all_fitted limit next items) (item-fitting limit stack item ready) later.0, later.1)

  -- ---- as pieces

  one-goes : (stack after : List (List ℕ)) (item : Item) → IsSame item → IsFitting limit stack (item ∷ []) after → Goes (Tree limit) stack (piece_in item) after
  one-goes stack after (StartTag name attributes) same fit = subst (λ l. IsFitting limit stack l after) (sym same) fit
  one-goes stack after (EndTag name) same fit = subst (λ l. IsFitting limit stack l after) (sym same) fit
  one-goes stack after (Text text) same fit = subst (λ l. IsFitting limit stack l after) (sym same) fit

  fitting-go : (stack after : List (List ℕ)) (items : List Item) → AllOf IsSame items → IsFitting limit stack items after → AllGo (Tree limit) stack (pieces_in items) after
  fitting-go stack after [] same Done = refl
  fitting-go stack after (item ∷ items) same (Next i f l r) =
      (open_after stack item, (one-goes stack (open_after stack item) item same.0 (Next item f l Done), fitting-go (open_after stack item) after items same.1 r))

  goes-fitting : (stack after : List (List ℕ)) (piece : Piece) → Goes (Tree limit) stack piece after → IsFitting limit stack (items_of_piece piece) after
  goes-fitting stack after (TextPiece text) goes = goes
  goes-fitting stack after (StartTagPiece name attributes) goes = goes
  goes-fitting stack after (EndTagPiece name) goes = goes
  goes-fitting stack after (CommentPiece text) goes = absurd goes

  pub go-fitting : (stack after : List (List ℕ)) (pieces : List Piece) → AllGo (Tree limit) stack pieces after → IsFitting limit stack (items_of pieces) after
  unfolding items_of
  go-fitting stack after [] go = subst (λ (o : List (List ℕ)). IsFitting limit stack [] o) go Done
  go-fitting stack after (piece ∷ pieces) go =
      fitting-append limit stack go.0 after (items_of_piece piece) (items_of pieces) (goes-fitting stack go.0 piece go.1.0) (go-fitting go.0 after pieces go.1.1)

  pub go-no_comment : (stack after : List (List ℕ)) (pieces : List Piece) → AllGo (Tree limit) stack pieces after → has_no_comment pieces ≡ true
  unfolding has_no_comment
  go-no_comment stack after [] go = refl
  go-no_comment stack after (TextPiece text ∷ pieces) go = go-no_comment go.0 after pieces go.1.1
  go-no_comment stack after (StartTagPiece name attributes ∷ pieces) go = go-no_comment go.0 after pieces go.1.1
  go-no_comment stack after (EndTagPiece name ∷ pieces) go = go-no_comment go.0 after pieces go.1.1
  go-no_comment stack after (CommentPiece text ∷ pieces) go = absurd go.1.0

  -- ---- what is written of pieces

  ends-go : (stack : List (List ℕ)) → IsReady limit stack → AllGo (Tree limit) stack (end_tags stack) []
  ends-go stack ready =
      subst (λ pieces. AllGo (Tree limit) stack pieces []) (ends-same stack ready.stand)
      (fitting-go stack [] (normal.end_tags stack) (ends-are_same stack (same-open stack ready.stand)) (closed-fitting limit stack ready.stand ready.short))
    where
      ends-are_same : (names : List (List ℕ)) → AllOf (λ name. IsSame (EndTag name)) names → AllOf IsSame (normal.end_tags names)
      ends-are_same [] same = tt
      ends-are_same (name ∷ names) same = (same.0, ends-are_same names same.1)

  pub written-fits : (ends : Bool) (stack : List (List ℕ)) (pieces : List Piece) → IsReady limit stack
      → AllGo (Tree limit) stack (written_by (Tree limit) ends stack pieces) (open_by (Tree limit) ends stack pieces) × IsReady limit (open_by (Tree limit) ends stack pieces)
  unfolding written_by open_by
  written-fits true stack pieces ready =
      let items : List Item = items_of pieces in
      let fit = fitted-fit stack items ready in
      let same = of-all IsSame same-closed limit stack items (same-open stack ready.stand) (same-pieces pieces) in
      let after : List (List ℕ) = open_after_all limit stack items in (
        go-append (Tree limit) stack after [] (pieces_in (all_fitted limit stack items)) (end_tags after)
            (fitting-go stack after (all_fitted limit stack items) same.0 fit.0) (ends-go after fit.1),
        none-ready limit,
      )
  written-fits false stack pieces ready =
      let items : List Item = items_of pieces in
      let fit = fitted-fit stack items ready in
      let same = of-all IsSame same-closed limit stack items (same-open stack ready.stand) (same-pieces pieces) in
      let after : List (List ℕ) = open_after_all limit stack items in
      (go-append (Tree limit) stack after after (pieces_in (all_fitted limit stack items)) [] (fitting-go stack after (all_fitted limit stack items) same.0 fit.0) refl, fit.1)
