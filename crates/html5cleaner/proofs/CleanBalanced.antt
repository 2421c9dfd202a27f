-- What balancing writes is clean.
use Rattle.std.proofs.Common.{◌≡◌, ℕ, zero, suc, Bool, true, false, List, [], ◌∷◌, ◌++◌, drop, take, refl, ap, ◌∙◌}
use Rattle.std.specs.Prelude.{◌&&◌, not, encode_utf8_all, if◌then◌else◌}
use Rattle.std.specs.List.{list_all}
use Rattle.std.proofs.lemmas.List.Folds.{list_all-append}
use Rattle.html5policy.specs.Policy.{PolicyOf, is_allowed}
use Rattle.html5write.specs.Pieces.{NameAndValue, Piece, are_distinct, can_write, is_attribute, is_tag_name}
use Rattle.html5write.specs.Pieces.Piece.{TextPiece, StartTagPiece, EndTagPiece, CommentPiece}
use Rattle.html5cleaner.specs.Allowed.{is_allowed_piece, is_clean, is_written_attribute}
use Rattle.html5cleaner.specs.Balance.{AreClean, all_balanced, all_open_after, balanced, closed_at_end, end_tags, open_after, open_by, written_by}
use Rattle.html5elements.specs.Elements.{is_void}
use Rattle.html5cleaner.specs.Shape.{shape_by_balance}
use Rattle.html5cleaner.specs.Open.{closed_by}
use Rattle.html5cleaner.proofs.Replies.{and-left, and-right}

pub both : (a b : Bool) → a ≡ true → b ≡ true → (a && b) ≡ true
both a b first second = ap (λ x. x && b) first ∙ second

pub all-both : {X : Type 0} (p : X → Bool) (xs ys : List X) → list_all p xs ≡ true → list_all p ys ≡ true → list_all p (xs ++ ys) ≡ true
all-both p xs ys first second = list_all-append p xs ys ∙ both (list_all p xs) (list_all p ys) first second

module _ (policy : PolicyOf) where
  -- the end tags of these are clean
  abbrev pub CanClose : List (List ℕ) → Type 0
  CanClose opened = list_all (is_clean policy) (end_tags opened) ≡ true

  abbrev pub AllClean : List Piece → Type 0
  AllClean pieces = list_all (is_clean policy) pieces ≡ true

  first-clean : (piece : Piece) (pieces : List Piece) → AllClean (piece ∷ pieces) → is_clean policy piece ≡ true
  first-clean piece pieces clean = and-left (is_clean policy piece) (list_all (is_clean policy) pieces) clean

  later-clean : (piece : Piece) (pieces : List Piece) → AllClean (piece ∷ pieces) → AllClean pieces
  later-clean piece pieces clean = and-right (is_clean policy piece) (list_all (is_clean policy) pieces) clean

  can-close-taken : (count : ℕ) (opened : List (List ℕ)) → CanClose opened → CanClose (take count opened)
  can-close-taken zero opened can = refl
  can-close-taken (suc count) [] can = refl
  can-close-taken (suc count) (inner ∷ opened) can =
      both (is_clean policy (EndTagPiece inner)) (list_all (is_clean policy) (end_tags (take count opened)))
      (first-clean (EndTagPiece inner) (end_tags opened) can)
      (can-close-taken count opened (later-clean (EndTagPiece inner) (end_tags opened) can))

  can-close-left : (count : ℕ) (opened : List (List ℕ)) → CanClose opened → CanClose (drop count opened)
  can-close-left zero opened can = can
  can-close-left (suc count) [] can = refl
  can-close-left (suc count) (inner ∷ opened) can = can-close-left count opened (later-clean (EndTagPiece inner) (end_tags opened) can)

  -- the end tag of an element whose start tag is clean
  clean-end_tag : (name : List ℕ) (attributes : List NameAndValue) → is_clean policy (StartTagPiece name attributes) ≡ true → is_void (encode_utf8_all name) ≡ false
      → is_clean policy (EndTagPiece name) ≡ true
  unfolding is_allowed_piece
  clean-end_tag name attributes clean not_void =
      let allowed = and-left (is_allowed_piece policy (StartTagPiece name attributes)) (can_write (StartTagPiece name attributes)) clean in
      let can = and-right (is_allowed_piece policy (StartTagPiece name attributes)) (can_write (StartTagPiece name attributes)) clean in
      both (is_allowed policy (encode_utf8_all name) && not (is_void (encode_utf8_all name))) (is_tag_name name)
      (both (is_allowed policy (encode_utf8_all name)) (not (is_void (encode_utf8_all name)))
      (and-left (is_allowed policy (encode_utf8_all name)) (list_all (is_written_attribute policy name) attributes) allowed) (ap not not_void))
      (and-left (is_tag_name name) (list_all is_attribute attributes && are_distinct attributes) can)

  can-close-start : (opened : List (List ℕ)) (name : List ℕ) (attributes : List NameAndValue) (void : Bool) → is_void (encode_utf8_all name) ≡ void → CanClose opened
      → is_clean policy (StartTagPiece name attributes) ≡ true → CanClose (if void then opened else name ∷ opened)
  can-close-start opened name attributes true is can clean = can
  can-close-start opened name attributes false is can clean =
      both (is_clean policy (EndTagPiece name)) (list_all (is_clean policy) (end_tags opened)) (clean-end_tag name attributes clean is) can

  pub can-close-after : (opened : List (List ℕ)) (piece : Piece) → CanClose opened → is_clean policy piece ≡ true → CanClose (open_after opened piece)
  unfolding open_after
  can-close-after opened (StartTagPiece name attributes) can clean = can-close-start opened name attributes (is_void (encode_utf8_all name)) refl can clean
  can-close-after opened (EndTagPiece name) can clean = can-close-left (closed_by opened name) opened can
  can-close-after opened (TextPiece text) can clean = can
  can-close-after opened (CommentPiece text) can clean = can

  clean-balanced : (opened : List (List ℕ)) (piece : Piece) → CanClose opened → is_clean policy piece ≡ true → AllClean (balanced opened piece)
  unfolding balanced
  clean-balanced opened (StartTagPiece name attributes) can clean = both (is_clean policy (StartTagPiece name attributes)) true clean refl
  clean-balanced opened (EndTagPiece name) can clean = can-close-taken (closed_by opened name) opened can
  clean-balanced opened (TextPiece text) can clean = both (is_clean policy (TextPiece text)) true clean refl
  clean-balanced opened (CommentPiece text) can clean = both (is_clean policy (CommentPiece text)) true clean refl

  all_clean-balanced : (opened : List (List ℕ)) (pieces : List Piece) → CanClose opened → AllClean pieces → AllClean (all_balanced opened pieces)
  unfolding all_balanced
  all_clean-balanced opened [] can clean = refl
  all_clean-balanced opened (piece ∷ pieces) can clean =
      let here = first-clean piece pieces clean in
      all-both (is_clean policy) (balanced opened piece) (all_balanced (open_after opened piece) pieces) (clean-balanced opened piece can here)
      (all_clean-balanced (open_after opened piece) pieces (can-close-after opened piece can here) (later-clean piece pieces clean))

  pub all_can-close : (opened : List (List ℕ)) (pieces : List Piece) → CanClose opened → AllClean pieces → CanClose (all_open_after opened pieces)
  unfolding all_open_after
  all_can-close opened [] can clean = can
  all_can-close opened (piece ∷ pieces) can clean =
      all_can-close (open_after opened piece) pieces (can-close-after opened piece can (first-clean piece pieces clean)) (later-clean piece pieces clean)

  pub clean-closed : (ends : Bool) (opened : List (List ℕ)) → CanClose opened → AllClean (closed_at_end ends opened)
  clean-closed true opened can = can
  clean-closed false opened can = refl

  clean-written : (balance ends : Bool) (opened : List (List ℕ)) (pieces : List Piece) → CanClose opened → AllClean pieces → AllClean (written_by (shape_by_balance balance) ends opened pieces)
  unfolding written_by
  clean-written true ends opened pieces can clean =
      all-both (is_clean policy) (all_balanced opened pieces) (closed_at_end ends (all_open_after opened pieces)) (all_clean-balanced opened pieces can clean)
      (clean-closed ends (all_open_after opened pieces) (all_can-close opened pieces can clean))
  clean-written false ends opened pieces can clean = clean

  pub can-close-by : (balance ends : Bool) (opened : List (List ℕ)) (pieces : List Piece) → CanClose opened → AllClean pieces → CanClose (open_by (shape_by_balance balance) ends opened pieces)
  unfolding open_by
  can-close-by true true opened pieces can clean = refl
  can-close-by true false opened pieces can clean = all_can-close opened pieces can clean
  can-close-by false ends opened pieces can clean = can

  -- pieces that were clean are clean with what is written after them
  pub are_clean-more : (balance ends : Bool) (before : List Piece) (opened : List (List ℕ)) (pieces : List Piece) → AreClean policy before opened → AllClean pieces
      → AreClean policy (before ++ written_by (shape_by_balance balance) ends opened pieces) (open_by (shape_by_balance balance) ends opened pieces)
  are_clean-more balance ends before opened pieces are clean = record {
    written = all-both (is_clean policy) before (written_by (shape_by_balance balance) ends opened pieces) are.written (clean-written balance ends opened pieces are.closing clean);
    closing = can-close-by balance ends opened pieces are.closing clean;
  }
