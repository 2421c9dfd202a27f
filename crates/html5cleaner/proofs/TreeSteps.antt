-- The answers of calls that write kept pieces so that they fit.
use Rattle.std.proofs.Common.{◌≡◌, ℕ, Bool, true, false, List, [], ◌∷◌, ◌++◌, Result, Ok, Err, chars, map, refl, ap, sym, ◌∙◌, subst, append-nil, append_assoc}
use Rattle.std.specs.Prelude.{◌==◌, encode_utf8_all, flat_map, OnErr, OnOk, if◌then◌else◌}
use Rattle.std.proofs.lemmas.List.{map-append}
use Rattle.html5ever_interface.specs.Token.Told.{Tag as ToldTag}
use Rattle.html5ever_interface.specs.declared.interface.token.TagKind.TheVariants as kind
use Rattle.html5nested.specs.Adding.{Adds, AddsFitted, attribute_said}
use Rattle.html5nested.specs.PageItems.{attribute_item, has_no_comment, items_of, items_of_piece, items_of_token}
use Rattle.html5nested.proofs.Added.{adds-both, adds-nothing, same-said}
use Rattle.html5nested.proofs.SameItems.{same-attributes}
use Rattle.html5tree.specs.Items.{Item}
use Rattle.html5tree.specs.Items.Item.{EndTag, StartTag, Text}
use Rattle.html5tree.specs.Nested.{Nested}
use Rattle.html5tree.specs.Normal as normal
use Rattle.html5tree.specs.Normal.{IsReady, fitted, open_after_fitted}
use Rattle.html5write.specs.Pieces.{Piece}
use Rattle.html5write.specs.Pieces.Piece.{StartTagPiece}
use Rattle.html5write.specs.Told.{piece_tokens}
use Rattle.html5write.specs.Writing.{attribute_of, tag_said}
use Rattle.html5write.specs.declared.error.WriteError.{WriteError}
use Rattle.html5write.specs.declared.piece.Attribute.{Attribute}
use Rattle.html5cleaner.specs.Balance.{closed_at_end, end_tags, open_by, written_by}
use Rattle.html5cleaner.specs.Kept.{AddsAll, AddsLast, Settles, ends_where}
use Rattle.html5cleaner.specs.Settled.{names_in}
use Rattle.html5cleaner.specs.Shape.{Shape, all_fitted, open_after_all, piece_in, pieces_in}
use Rattle.html5cleaner.specs.Shape.Shape.{Tree}
use Rattle.html5cleaner.specs.declared.opened.Opened.{Opened}
use Rattle.html5cleaner.specs.declared.opened.Pending.{Pending}
use Rattle.html5cleaner.specs.declared.opened.Pending.TheVariants.{Tree as TreePending}
use Rattle.html5cleaner.proofs.ItemPieces.{ends-same, items-append, pieces-back}
use Rattle.html5cleaner.proofs.TreePages.{fitted-fit}

-- ---- one item

adds-one : (before after : List Piece) (was now : Nested) (item : Item) → AddsFitted before after was now item → AddsAll before after was now (item ∷ [])
unfolding all_fitted open_after_all
adds-one before after was now item adds = record {
  added = subst (λ l. Adds before after l) (sym (append-nil (fitted was.limit was.opened item))) adds.added;
  opened = adds.opened;
  limit = adds.limit;
}

pub adds-item : (result : Result (Unit {0}) WriteError) (before after : List Piece) (was now : Nested) (item : Item) (items : List Item) → items ≡ item ∷ []
    → OnOk result (AddsFitted before after was now item) → OnOk result (AddsAll before after was now items)
adds-item (Ok u) before after was now item items is adds = subst (λ l. AddsAll before after was now l) (sym is) (adds-one before after was now item adds)
adds-item (Err error) before after was now item items is adds = tt

-- the items of a start tag whose tokens are known
pub start-items : (name : List ℕ) (attributes : List Attribute)
    → piece_tokens (StartTagPiece (chars name) (map attribute_of attributes)) ≡ ToldTag (tag_said kind.StartTag name attributes) ∷ []
    → items_of_piece (StartTagPiece (chars name) (map attribute_of attributes)) ≡ StartTag name (map attribute_said attributes) ∷ []
start-items name attributes said =
    ap (λ l. StartTag (encode_utf8_all (chars name)) l ∷ []) (sym (same-attributes (map attribute_of attributes)))
    ∙ (ap (flat_map items_of_token) said ∙ ap (λ l. StartTag name l ∷ []) (same-said attributes))

pub adds-none : (page : List Piece) (nested : Nested) → AddsAll page page nested nested []
unfolding all_fitted open_after_all
adds-none page nested = record { added = adds-nothing page; opened = refl; limit = refl }

pub items-none : items_of [] ≡ []
unfolding items_of
items-none = refl

pub items-alone : (piece : Piece) → items_of (piece ∷ []) ≡ items_of_piece piece
unfolding items_of
items-alone piece = append-nil (items_of_piece piece)

pub adds-same : (result : Result (Unit {0}) WriteError) (before after : List Piece) (was now : Nested) (items others : List Item) → items ≡ others
    → OnOk result (AddsAll before after was now items) → OnOk result (AddsAll before after was now others)
adds-same (Ok u) before after was now items others is adds = subst (λ l. AddsAll before after was now l) is adds
adds-same (Err error) before after was now items others is adds = tt

-- ---- one list of items after another

fitted-append : (limit : ℕ) (opened : List (List ℕ)) (first second : List Item)
    → all_fitted limit opened (first ++ second) ≡ all_fitted limit opened first ++ all_fitted limit (open_after_all limit opened first) second
unfolding all_fitted open_after_all
fitted-append limit opened [] second = refl
fitted-append limit opened (item ∷ first) second =
    let next : List (List ℕ) = open_after_fitted limit opened item in
    ap (λ l. fitted limit opened item ++ l) (fitted-append limit next first second)
    ∙ sym (append_assoc (fitted limit opened item) (all_fitted limit next first) (all_fitted limit (open_after_all limit next first) second))

open-append : (limit : ℕ) (opened : List (List ℕ)) (first second : List Item) → open_after_all limit opened (first ++ second) ≡ open_after_all limit (open_after_all limit opened first) second
unfolding open_after_all
open-append limit opened [] second = refl
open-append limit opened (item ∷ first) second = open-append limit (open_after_fitted limit opened item) first second

adds-after : (before between after : List Piece) (was then_open now : Nested) (first second : List Item) → AddsAll before between was then_open first
    → AddsAll between after then_open now second → AddsAll before after was now (first ++ second)
adds-after before between after was then_open now first second one two =
    let middle : List (List ℕ) = open_after_all was.limit was.opened first in
    record {
      added =
          subst (λ l. Adds before after l) (sym (fitted-append was.limit was.opened first second))
          (adds-both before between after (all_fitted was.limit was.opened first) (all_fitted was.limit middle second) one.added
          (subst (λ l. Adds between after l) ((λ i. all_fitted (one.limit i) (one.opened i) second)) two.added));
      opened = two.opened ∙ ((λ i. open_after_all (one.limit i) (one.opened i) second) ∙ sym (open-append was.limit was.opened first second));
      limit = two.limit ∙ one.limit;
    }

-- a run and a tag, where the page goes on after them
pub step-goes_on : (before between after : List Piece) (was then_open now : Nested) (ends : Bool) (first second : List Piece) → ends ≡ false → IsReady was.limit was.opened
    → AddsAll before between was then_open (items_of first) → AddsAll between after then_open now (items_of second)
    → AddsLast before after was now ends (items_of (first ++ second))
step-goes_on before between after was then_open now true first second is ready one two = absurd cc
step-goes_on before between after was then_open now false first second is ready one two =
    let both = subst (λ l. AddsAll before after was now l) (sym (items-append first second)) (adds-after before between after was then_open now (items_of first) (items_of second) one two) in
    record {
      added = subst (λ l. Adds before after l) (sym (append-nil (all_fitted was.limit was.opened (items_of (first ++ second))))) both.added;
      opened = both.opened;
      limit = both.limit;
      ready = ready;
    }

-- and where it ends
pub step-ends : (result : Result (Unit {0}) WriteError) (before between middle after : List Piece) (was then_open last now : Nested) (ends : Bool) (first second : List Piece) → ends ≡ true
    → IsReady was.limit was.opened → AddsAll before between was then_open (items_of first) → AddsAll between middle then_open last (items_of second)
    → OnOk result (Adds middle after (normal.end_tags last.opened)) → OnOk result (now.opened ≡ []) → now.limit ≡ last.limit
    → OnOk result (AddsLast before after was now ends (items_of (first ++ second)))
step-ends (Err error) before between middle after was then_open last now ends first second is ready one two closes none limit = tt
step-ends (Ok u) before between middle after was then_open last now false first second is ready one two closes none limit = absurd cc
step-ends (Ok u) before between middle after was then_open last now true first second is ready one two closes none limit =
    let both = subst (λ l. AddsAll before middle was last l) (sym (items-append first second)) (adds-after before between middle was then_open last (items_of first) (items_of second) one two) in
    record {
      added =
          adds-both before middle after (all_fitted was.limit was.opened (items_of (first ++ second))) (normal.end_tags (open_after_all was.limit was.opened (items_of (first ++ second)))) both.added
          (subst (λ l. Adds middle after (normal.end_tags l)) both.opened closes);
      opened = none;
      limit = limit ∙ both.limit;
      ready = ready;
    }

-- ---- as pieces

ends-pieces : (limit : ℕ) (ends : Bool) (opened : List (List ℕ)) → IsReady limit opened → pieces_in (ends_where ends opened) ≡ closed_at_end ends opened
ends-pieces limit true opened ready = ends-same opened ready.stand
ends-pieces limit false opened ready = refl

-- what was written to an empty page
part-written : (limit : ℕ) (opened : List (List ℕ)) (part : List Piece) (ends : Bool) (pieces : List Piece) → IsReady limit opened
    → Adds [] part (all_fitted limit opened (items_of pieces) ++ ends_where ends (open_after_all limit opened (items_of pieces)))
    → part ≡ written_by (Tree limit) ends opened pieces
unfolding written_by items_of has_no_comment
part-written limit opened part ends pieces ready adds =
    let items : List Item = items_of pieces in
    let after : List (List ℕ) = open_after_all limit opened items in
    sym (pieces-back part (adds.no_comment refl))
    ∙ (ap pieces_in adds.items
    ∙ (map-append piece_in (all_fitted limit opened items) (ends_where ends after)
    ∙ ap (λ l. pieces_in (all_fitted limit opened items) ++ l) (ends-pieces limit ends after (fitted-fit limit opened items ready).1)))

open-now : (limit : ℕ) (ends : Bool) (opened : List (List ℕ)) (pieces : List Piece) → (if ends then [] else open_after_all limit opened (items_of pieces)) ≡ open_by (Tree limit) ends opened pieces
unfolding open_by
open-now limit ends opened pieces = refl

module _ {Z : Type 0} where
  -- what was written to a part stands on the page
  pub settles-tree : (before after none part : List Piece) (was now : Opened Z) (copied : Nested) (ends : Bool) (pieces : List Piece) → now.tree ≡ was.tree
      → copied.opened ≡ was.tree.opened → copied.limit ≡ was.tree.limit → none ≡ [] → AddsLast none part copied now.next ends (items_of pieces) → after ≡ before ++ part
      → Settles (Tree was.tree.limit) (Ok TreePending) before after was now (written_by (Tree was.tree.limit) ends was.tree.opened pieces)
      (open_by (Tree was.tree.limit) ends was.tree.opened pieces)
  settles-tree before after none part was now copied ends pieces stays opens limits empty adds stands = record {
    written =
        stands
        ∙ ap (λ l. before ++ l)
        (part-written copied.limit copied.opened part ends pieces adds.ready (subst (λ l. Adds l part (all_fitted copied.limit copied.opened (items_of pieces) ++ ends_where ends (open_after_all copied.limit copied.opened (items_of pieces)))) empty adds.added)
        ∙ (λ i. written_by (Tree (limits i)) ends (opens i) pieces));
    taken_back = ap (λ (n : Nested). n.opened) stays;
    done = adds.opened ∙ (open-now copied.limit ends copied.opened pieces ∙ (λ i. open_by (Tree (limits i)) ends (opens i) pieces));
    unchanged = tt;
    unopened = tt;
    limit_undone = ap (λ (n : Nested). n.limit) stays;
    limit_done = adds.limit ∙ limits;
    limit_unopened = tt;
  }

  pub settles-error : (error : WriteError) (limit : ℕ) (before after : List Piece) (was now : Opened Z) (pieces : List Piece) (elements : List (List ℕ)) → now.tree ≡ was.tree
      → after ≡ before → Settles (Tree limit) (Err error) before after was now pieces elements
  settles-error error limit before after was now pieces elements stays same = record {
    written = tt;
    taken_back = tt;
    done = tt;
    unchanged = same;
    unopened = ap (λ (n : Nested). n.opened) stays;
    limit_undone = tt;
    limit_done = tt;
    limit_unopened = ap (λ (n : Nested). n.limit) stays;
  }

  -- the same pieces by other names
  pub settles-same : (shape : Shape) (result : Result Pending WriteError) (before after : List Piece) (was now : Opened Z) (ends other_ends : Bool) (names : List (List ℕ)) (pieces others : List Piece)
      → ends ≡ other_ends → pieces ≡ others → Settles shape result before after was now (written_by shape ends names pieces) (open_by shape ends names pieces)
      → Settles shape result before after was now (written_by shape other_ends names others) (open_by shape other_ends names others)
  settles-same shape result before after was now ends other_ends names pieces others e p settles =
      subst (λ l. Settles shape result before after was now (written_by shape other_ends names l) (open_by shape other_ends names l)) p
      (subst (λ b. Settles shape result before after was now (written_by shape b names pieces) (open_by shape b names pieces)) e settles)
