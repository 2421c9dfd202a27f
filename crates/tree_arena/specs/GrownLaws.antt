-- Laws of the rows that edits make: two texts at one place are as one.
use Rattle.std.specs.Prelude.{◌≡◌, ℕ, true, false, List, [], ◌∷◌, ◌++◌, ◌==◌, Option, Some, None, if◌then◌else◌, refl}
use Rattle.std.proofs.Common.{ap, ◌∙◌, append_assoc}
use Rattle.tree_construction.specs.Document.{Child, Row, Spot, added, added_before, changed, is_node, parent_of, put_among, put_at, row_of, spot_of, with_children}
use Rattle.tree_construction.specs.Document.Child.{Node, Text, Doctype}
use Rattle.tree_construction.specs.Page.{Place}
use Rattle.tree_construction.specs.Page.Place.{LastChild, BeforeTable, BesideNode}
use Rattle.tree_construction.specs.Page.Edit.{PutText}
use Rattle.tree_arena.specs.Grown.{Document, document_after}

-- ---- children

added_twice : (a b : List ℕ) (children : List Child) → added (Text b) (added (Text a) children) ≡ added (Text (a ++ b)) children
added_twice a b [] = refl
added_twice a b (Text text ∷ children) = ap (λ t. Text t ∷ children) (append_assoc text a b)
added_twice a b (Node n ∷ children) = refl
added_twice a b (Doctype name public_id system_id ∷ children) = refl

added_before_twice : (n : ℕ) (a b : List ℕ) (children : List Child) → added_before n (Text b) (added_before n (Text a) children) ≡ added_before n (Text (a ++ b)) children
unfolding added_before
added_before_twice n a b [] = refl
added_before_twice n a b (c ∷ children) =
    elim (is_node n c) as (λ t. (is_node n c ≡ t) → added_before n (Text b) (if t then c ∷ added (Text a) children else c ∷ added_before n (Text a) children)
    ≡ (if t then c ∷ added (Text (a ++ b)) children else c ∷ added_before n (Text (a ++ b)) children)) [
      | true ↦ λ e. rw e (ap (λ l. c ∷ l) (added_twice a b children))
      | false ↦ λ e. rw e (ap (λ l. c ∷ l) (added_before_twice n a b children))
    ] refl

put_twice : (before : Option ℕ) (a b : List ℕ) (children : List Child) → put_among before (Text b) (put_among before (Text a) children) ≡ put_among before (Text (a ++ b)) children
put_twice None a b children = added_twice a b children
put_twice (Some n) a b children = added_before_twice n a b children

-- ---- rows

changed_twice : (n : ℕ) (f g h : List Child → List Child) (rows : List Row) → ((children : List Child) → g (f children) ≡ h children)
    → changed n (with_children g) (changed n (with_children f) rows) ≡ changed n (with_children h) rows
unfolding changed
changed_twice n f g h [] e = refl
changed_twice n f g h (r ∷ rows) e =
    elim (r.node == n) as (λ t. ((r.node == n) ≡ t) → changed n (with_children g) (if t then with_children f r ∷ rows else r ∷ changed n (with_children f) rows)
    ≡ (if t then with_children h r ∷ rows else r ∷ changed n (with_children h) rows)) [
      | true ↦ λ s. rw s (ap (λ children. record r { children = children } ∷ rows) (e r.children))
      | false ↦ λ s. rw s (ap (λ l. r ∷ l) (changed_twice n f g h rows e))
    ] refl

-- children do not change what a node stands in
parent_kept : (m n : ℕ) (f : List Child → List Child) (rows : List Row) → parent_of m (changed n (with_children f) rows) ≡ parent_of m rows
unfolding changed row_of
parent_kept m n f [] = refl
parent_kept m n f (r ∷ rows) =
    elim (r.node == n) as (λ t. parent_of m (if t then with_children f r ∷ rows else r ∷ changed n (with_children f) rows) ≡ parent_of m (r ∷ rows)) [
      | true ↦ elim (r.node == m) as (λ t. (if t then with_children f r else row_of m rows).parent ≡ (if t then r else row_of m rows).parent) [ true ↦ refl | false ↦ refl ]
      | false ↦ elim (r.node == m) as (λ t. (if t then r else row_of m (changed n (with_children f) rows)).parent ≡ (if t then r else row_of m rows).parent) [
        | true ↦ refl
        | false ↦ parent_kept m n f rows
      ]
    ]

-- nor where a place is
spot_kept : (place : Place) (n : ℕ) (f : List Child → List Child) (rows : List Row) → spot_of place (changed n (with_children f) rows) ≡ spot_of place rows
spot_kept (LastChild parent) n f rows = refl
spot_kept (BeforeTable table above) n f rows = rw (parent_kept table n f rows) refl
spot_kept (BesideNode m) n f rows = rw (parent_kept m n f rows) refl

-- ---- laws of a sink

rows_join : (place : Place) (a b : List ℕ) (rows : List Row) → put_at (spot_of place (put_at (spot_of place rows) (Text a) rows)) (Text b) (put_at (spot_of place rows) (Text a) rows)
    ≡ put_at (spot_of place rows) (Text (a ++ b)) rows
rows_join place a b rows =
    let spot = spot_of place rows in
    ap (λ (s : Spot). put_at s (Text b) (put_at spot (Text a) rows)) (spot_kept place spot.parent (put_among spot.before (Text a)) rows)
    ∙ changed_twice spot.parent (put_among spot.before (Text a)) (put_among spot.before (Text b)) (put_among spot.before (Text (a ++ b))) rows (put_twice spot.before a b)

pub texts_join : (document : Document) (place : Place) (a b : List ℕ) → document_after (document_after document (PutText place a)) (PutText place b) ≡ document_after document (PutText place (a ++ b))
texts_join document place a b = ap (λ rows. let d : Document = record { rows = rows; next = document.next } in d) (rows_join place a b document.rows)
