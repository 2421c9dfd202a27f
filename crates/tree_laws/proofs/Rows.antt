-- The rows of a document have the parents of which the law of trees speaks.
use Rattle.std.proofs.Common.{◌≡◌, ℕ, ◌<◌, ◌≤◌, Bool, true, false, List, [], ◌∷◌, refl, ap, sym, ◌∙◌, subst, arith}
use Rattle.std.specs.Prelude.{suc, ◌==◌, map, Option, Some, None, if◌then◌else◌}
use Rattle.std.proofs.lemmas.Bool.{eq-eqb, eqb-true, false≢true}
use Rattle.std.proofs.lemmas.Option.{none-some}
use Rattle.tree_construction.specs.Document.{Child, Row, Spot, added, built, changed, is_child_of, moved, new_row, parent_of, put_among, removed_from, row_of, spot_before, spot_beside, spot_of, with_attributes, with_children, with_parent, without_node}
use Rattle.tree_construction.specs.Document.Child.{Node, Text, Doctype}
use Rattle.tree_construction.specs.Document.What.{Document, Element, TemplateContents, Comment}
use Rattle.tree_construction.specs.Page.{Edit, Place}
use Rattle.tree_construction.specs.Page.Edit.{MakeElement, MakeContents, MakeComment, PutDoctype, Put, PutText, Remove, MoveChildren, AddAttributes, SetQuirksMode, MarkStarted, AssociateForm, Pop, ParseError}
use Rattle.tree_construction.specs.Page.Place.{LastChild, BeforeTable, BesideNode}
use Rattle.tree_laws.specs.Laws.{AreOrderly, next_number}
use Rattle.tree_laws.specs.Trees.{KeepTree, moved_to, or_else, parent_after, parent_at}
use Rattle.tree_laws.proofs.Trees.{no-parent}

-- ---- rows that are changed

-- a change that keeps the number of a row, and its parent
record KeepsParent (change : Row → Row) : Type 0 where
  pub node : (r : Row) → (change r).node ≡ r.node
  pub parent : (r : Row) → (change r).parent ≡ r.parent

children-keep : (change : List Child → List Child) → KeepsParent (with_children change)
children-keep change = record { node = λ r. refl; parent = λ r. refl }

-- one of two rows
either-parent : (test : Bool) (a b c d : Row) → a.parent ≡ c.parent → b.parent ≡ d.parent → (if test then a else b).parent ≡ (if test then c else d).parent
either-parent true a b c d first second = first
either-parent false a b c d first second = second

changed-parent : (n m : ℕ) (change : Row → Row) (rows : List Row) → KeepsParent change → parent_of n (changed m change rows) ≡ parent_of n rows
unfolding changed row_of
changed-parent n m change [] keeps = refl
changed-parent n m change (r ∷ rows) keeps = by_test (changed-parent n m change rows keeps) (r.node == m)
  where
    by_test : parent_of n (changed m change rows) ≡ parent_of n rows → (test : Bool)
        → parent_of n (if test then change r ∷ rows else r ∷ changed m change rows) ≡ parent_of n (r ∷ rows)
    by_test rest true =
        ap (λ i. (if i == n then change r else row_of n rows).parent) (keeps.node r)
        ∙ either-parent (r.node == n) (change r) (row_of n rows) r (row_of n rows) (keeps.parent r) refl
    by_test rest false = either-parent (r.node == n) r (row_of n (changed m change rows)) r (row_of n rows) refl rest

unfoldable has_row : ℕ → List Row → Bool
has_row n [] = false
has_row n (r ∷ rows) = if r.node == n then true else has_row n rows

changed-row : (n m : ℕ) (change : Row → Row) (rows : List Row) → ((r : Row) → (change r).node ≡ r.node)
    → has_row n (changed m change rows) ≡ has_row n rows
unfolding changed has_row
changed-row n m change [] keeps = refl
changed-row n m change (r ∷ rows) keeps = by_test (changed-row n m change rows keeps) (r.node == m)
  where
    by_test : has_row n (changed m change rows) ≡ has_row n rows → (test : Bool)
        → has_row n (if test then change r ∷ rows else r ∷ changed m change rows) ≡ has_row n (r ∷ rows)
    by_test rest true = ap (λ i. if i == n then true else has_row n rows) (keeps r)
    by_test rest false = ap (λ other. if r.node == n then true else other) rest

other-number : (m n i : ℕ) → (i == n) ≡ true → (i == m) ≡ false → (m == n) ≡ false
other-number m n i same other = by_test (m == n) refl
  where
    by_test : (test : Bool) → (m == n) ≡ test → test ≡ false
    by_test true is = absurd (false≢true (sym other ∙ eq-eqb i m (eqb-true i n same ∙ sym (eqb-true m n is))))
    by_test false is = refl

-- a row gets another parent
parent-set : (n m : ℕ) (parent : Option ℕ) (rows : List Row) → has_row m rows ≡ true
    → parent_of n (changed m (with_parent parent) rows) ≡ (if m == n then parent else parent_of n rows)
unfolding changed row_of has_row
parent-set n m parent [] has = absurd (false≢true has)
parent-set n m parent (r ∷ rows) has = by_test (parent-set n m parent rows) (r.node == m) refl has
  where
    first : (test : Bool) → (if test then with_parent parent r else row_of n rows).parent
        ≡ (if test then parent else (if test then r else row_of n rows).parent)
    first true = refl
    first false = refl

    later : (test : Bool) → (r.node == n) ≡ test → (r.node == m) ≡ false
        → parent_of n (changed m (with_parent parent) rows) ≡ (if m == n then parent else parent_of n rows)
        → (if test then r else row_of n (changed m (with_parent parent) rows)).parent
        ≡ (if m == n then parent else (if test then r else row_of n rows).parent)
    later true is other rest = ap (λ same. if same then parent else r.parent) (sym (other-number m n r.node is other))
    later false is other rest = rest

    by_test : (has_row m rows ≡ true → parent_of n (changed m (with_parent parent) rows) ≡ (if m == n then parent else parent_of n rows))
        → (test : Bool) → (r.node == m) ≡ test → (if test then true else has_row m rows) ≡ true
        → parent_of n (if test then with_parent parent r ∷ rows else r ∷ changed m (with_parent parent) rows)
        ≡ (if m == n then parent else parent_of n (r ∷ rows))
    by_test rest true is has =
        subst (λ i. (if r.node == n then with_parent parent r else row_of n rows).parent
        ≡ (if i == n then parent else (if r.node == n then r else row_of n rows).parent)) (eqb-true r.node m is) (first (r.node == n))
    by_test rest false is has = later (r.node == n) refl is (rest has)

-- children get another parent
moved-parents : (n source target : ℕ) (rows : List Row) → parent_of n (map (moved source target) rows) ≡ moved_to source target (parent_of n rows)
unfolding row_of
moved-parents n source target [] = refl
moved-parents n source target (r ∷ rows) = by_test (moved-parents n source target rows) (r.node == n)
  where
    moved-node : (test : Bool) → (if test then record r { parent = Some target } else r).node ≡ r.node
    moved-node true = refl
    moved-node false = refl

    of_parent : (found : Option ℕ) → r.parent ≡ found
        → (if is_child_of source found then record r { parent = Some target } else r).parent ≡ moved_to source target found
    of_parent None is = is
    of_parent (Some m) is = by_child (m == source)
      where
        by_child : (test : Bool) → (if test then record r { parent = Some target } else r).parent ≡ (if test then Some target else Some m)
        by_child true = refl
        by_child false = is

    chosen : (test : Bool) → parent_of n (map (moved source target) rows) ≡ moved_to source target (parent_of n rows)
        → (if test then moved source target r else row_of n (map (moved source target) rows)).parent
        ≡ moved_to source target (if test then r else row_of n rows).parent
    chosen true rest = of_parent r.parent refl
    chosen false rest = rest

    by_test : parent_of n (map (moved source target) rows) ≡ moved_to source target (parent_of n rows) → (test : Bool)
        → parent_of n (map (moved source target) (r ∷ rows)) ≡ moved_to source target (parent_of n (r ∷ rows))
    by_test rest test =
        ap (λ i. (if i == n then moved source target r else row_of n (map (moved source target) rows)).parent)
        (moved-node (is_child_of source r.parent)) ∙ chosen (r.node == n) rest

moved-row : (n source target : ℕ) (rows : List Row) → has_row n (map (moved source target) rows) ≡ has_row n rows
unfolding has_row
moved-row n source target [] = refl
moved-row n source target (r ∷ rows) =
    ap (λ i. if i == n then true else has_row n (map (moved source target) rows)) (moved-node (is_child_of source r.parent))
    ∙ ap (λ other. if r.node == n then true else other) (moved-row n source target rows)
  where
    moved-node : (test : Bool) → (if test then record r { parent = Some target } else r).node ≡ r.node
    moved-node true = refl
    moved-node false = refl

-- ---- what edits made has rows

below-other : (n i : ℕ) → n < suc i → (i ≡ n → ⊥) → n < i
below-other n i less differ = by_test (i == n) refl
  where
    not-below : i ≡ n → n < i
    not-below same = absurd (differ same)

    by_test : (test : Bool) → (i == n) ≡ test → n < i
    by_test true is = not-below (eqb-true i n is)
    by_test false is = omega (arith, less, differ)

removed-row : (n i : ℕ) (parent : Option ℕ) (rows : List Row) → has_row n (removed_from parent i rows) ≡ has_row n rows
removed-row n i None rows = refl
removed-row n i (Some parent) rows =
    changed-row n parent (with_children (without_node i)) (changed i (with_parent None) rows) (λ r. refl)
    ∙ changed-row n i (with_parent None) rows (λ r. refl)

-- a node that has a parent has a row
row-of-child : (n parent : ℕ) (rows : List Row) → parent_of n rows ≡ Some parent → has_row n rows ≡ true
unfolding row_of has_row
row-of-child n parent [] is = absurd (none-some parent is)
row-of-child n parent (r ∷ rows) is = by_test (row-of-child n parent rows) (r.node == n) is
  where
    by_test : (parent_of n rows ≡ Some parent → has_row n rows ≡ true) → (test : Bool) → (if test then r else row_of n rows).parent ≡ Some parent
        → (if test then true else has_row n rows) ≡ true
    by_test rest true is = refl
    by_test rest false is = rest is

-- a row of its own, or one from before
newest-row : (n i : ℕ) (rows : List Row) → (n < i → has_row n rows ≡ true) → n < suc i → (if i == n then true else has_row n rows) ≡ true
newest-row n i rows earlier less = by_test (i == n) refl
  where
    by_test : (test : Bool) → (i == n) ≡ test → (if test then true else has_row n rows) ≡ true
    by_test true is = refl
    by_test false is = earlier (below-other n i less (λ same. false≢true (sym is ∙ eq-eqb i n same)))

rows-made : (edits : List Edit) → AreOrderly edits → (n : ℕ) → 3 ≤ n → n < next_number edits → has_row n (built edits) ≡ true
unfolding AreOrderly next_number built has_row
rows-made [] orderly n begun less = absurd (omega (arith, begun, less))
rows-made (MakeElement i namespace name attributes ∷ before) orderly n begun less =
    newest-row n i (built before) (λ earlier. rows-made before orderly.1 n begun (subst (λ j. n < j) orderly.0 earlier)) less
rows-made (MakeComment i text ∷ before) orderly n begun less =
    newest-row n i (built before) (λ earlier. rows-made before orderly.1 n begun (subst (λ j. n < j) orderly.0 earlier)) less
rows-made (MakeContents template i ∷ before) orderly n begun less =
    newest-row n i (changed template (λ r. record r { contents = Some i }) (built before))
    (λ earlier. changed-row n template (λ r. record r { contents = Some i }) (built before) (λ r. refl)
    ∙ rows-made before orderly.1 n begun (subst (λ j. n < j) orderly.0.1 earlier)) less
rows-made (Put place i ∷ before) orderly n begun less =
    let rows : List Row = built before in
    let spot : Spot = spot_of place rows in
    let set : List Row = changed i (with_parent (Some spot.parent)) rows in
    changed-row n spot.parent (with_children (put_among spot.before (Node i))) set (λ r. refl)
    ∙ changed-row n i (with_parent (Some spot.parent)) rows (λ r. refl) ∙ rows-made before orderly.1 n begun less
rows-made (PutText place text ∷ before) orderly n begun less =
    let spot : Spot = spot_of place (built before) in
    changed-row n spot.parent (with_children (put_among spot.before (Text text))) (built before) (λ r. refl) ∙ rows-made before orderly.1 n begun less
rows-made (PutDoctype name public_id system_id ∷ before) orderly n begun less =
    changed-row n 0 (with_children (added (Doctype name public_id system_id))) (built before) (λ r. refl) ∙ rows-made before orderly.1 n begun less
rows-made (AddAttributes i attributes ∷ before) orderly n begun less =
    changed-row n i (λ r. record r { what = with_attributes attributes r.what }) (built before) (λ r. refl) ∙ rows-made before orderly.1 n begun less
rows-made (Remove i ∷ before) orderly n begun less =
    removed-row n i (parent_of i (built before)) (built before) ∙ rows-made before orderly.1 n begun less
rows-made (MoveChildren source target ∷ before) orderly n begun less =
    let rows : List Row = built before in
    let empty : List Row = changed source (with_children (λ own. [])) rows in
    let children : List Child = (row_of source rows).children in
    moved-row n source target (changed target (with_children (λ own. children)) empty)
    ∙ changed-row n target (with_children (λ own. children)) empty (λ r. refl)
    ∙ changed-row n source (with_children (λ own. [])) rows (λ r. refl) ∙ rows-made before orderly.1 n begun less
rows-made (SetQuirksMode mode ∷ before) orderly n begun less = rows-made before orderly.1 n begun less
rows-made (MarkStarted i ∷ before) orderly n begun less = rows-made before orderly.1 n begun less
rows-made (AssociateForm i form place ∷ before) orderly n begun less = rows-made before orderly.1 n begun less
rows-made (Pop i ∷ before) orderly n begun less = rows-made before orderly.1 n begun less
rows-made (ParseError mistake ∷ before) orderly n begun less = rows-made before orderly.1 n begun less

-- ---- the parents of rows

spot-parent : (place : Place) (rows : List Row) (parent : ℕ → Option ℕ) → ((n : ℕ) → parent_of n rows ≡ parent n)
    → (spot_of place rows).parent ≡ parent_at parent place
spot-parent (LastChild n) rows parent same = refl
spot-parent (BeforeTable table above) rows parent same =
    of_parent (parent_of table rows) ∙ ap (λ found. or_else found above) (same table)
  where
    of_parent : (found : Option ℕ) → (spot_before table above found).parent ≡ or_else found above
    of_parent None = refl
    of_parent (Some n) = refl
spot-parent (BesideNode n) rows parent same = of_parent (parent_of n rows) ∙ ap (λ found. or_else found n) (same n)
  where
    of_parent : (found : Option ℕ) → (spot_beside n found).parent ≡ or_else found n
    of_parent None = refl
    of_parent (Some m) = refl

-- a new row has no parent, and its number had none
newest-parent : (n i : ℕ) (new : Row) (rows : List Row) (was : ℕ → Option ℕ) → new.parent ≡ None → was i ≡ None → parent_of n rows ≡ was n
    → (if i == n then new else row_of n rows).parent ≡ was n
newest-parent n i new rows was none unmade rest = by_test (i == n) refl
  where
    by_test : (test : Bool) → (i == n) ≡ test → (if test then new else row_of n rows).parent ≡ was n
    by_test true is = none ∙ sym unmade ∙ ap was (eqb-true i n is)
    by_test false is = rest

removed-parent-of : (n i : ℕ) (parent : Option ℕ) (rows : List Row) → parent_of i rows ≡ parent
    → parent_of n (removed_from parent i rows) ≡ (if i == n then None else parent_of n rows)
removed-parent-of n i None rows is = by_test (i == n) refl
  where
    by_test : (test : Bool) → (i == n) ≡ test → parent_of n rows ≡ (if test then None else parent_of n rows)
    by_test true same = ap (λ j. parent_of j rows) (sym (eqb-true i n same)) ∙ is
    by_test false same = refl
removed-parent-of n i (Some parent) rows is =
    changed-parent n parent (with_children (without_node i)) (changed i (with_parent None) rows) (children-keep (without_node i))
    ∙ parent-set n i None rows (row-of-child i parent rows is)

pub rows-have-parents : (edits : List Edit) → AreOrderly edits → KeepTree edits → (n : ℕ) → parent_of n (built edits) ≡ parent_after edits n
unfolding AreOrderly KeepTree built parent_after row_of
rows-have-parents [] orderly tree n = by_test (0 == n)
  where
    by_test : (test : Bool) → (if test then new_row 0 Document else new_row n TemplateContents).parent ≡ None
    by_test true = refl
    by_test false = refl
rows-have-parents (MakeElement i namespace name attributes ∷ before) orderly tree n =
    newest-parent n i (new_row i (Element namespace name attributes)) (built before) (parent_after before) refl
    (no-parent before i orderly.1 (subst (λ j. next_number before ≤ j) (sym orderly.0) (omega arith))) (rows-have-parents before orderly.1 tree.1 n)
rows-have-parents (MakeComment i text ∷ before) orderly tree n =
    newest-parent n i (new_row i (Comment text)) (built before) (parent_after before) refl
    (no-parent before i orderly.1 (subst (λ j. next_number before ≤ j) (sym orderly.0) (omega arith))) (rows-have-parents before orderly.1 tree.1 n)
rows-have-parents (MakeContents template i ∷ before) orderly tree n =
    newest-parent n i (new_row i TemplateContents) (changed template (λ r. record r { contents = Some i }) (built before)) (parent_after before) refl
    (no-parent before i orderly.1 (subst (λ j. next_number before ≤ j) (sym orderly.0.1) (omega arith)))
    (changed-parent n template (λ r. record r { contents = Some i }) (built before) (record { node = λ r. refl; parent = λ r. refl })
    ∙ rows-have-parents before orderly.1 tree.1 n)
rows-have-parents (Put place i ∷ before) orderly tree n =
    let rows : List Row = built before in
    let spot : Spot = spot_of place rows in
    let set : List Row = changed i (with_parent (Some spot.parent)) rows in
    changed-parent n spot.parent (with_children (put_among spot.before (Node i))) set (children-keep (put_among spot.before (Node i)))
    ∙ parent-set n i (Some spot.parent) rows (rows-made before orderly.1 i tree.0.0 orderly.0.1)
    ∙ ap (λ parent. if i == n then Some parent else parent_of n rows) (spot-parent place rows (parent_after before) (λ m. rows-have-parents before orderly.1 tree.1 m))
    ∙ ap (λ found. if i == n then Some (parent_at (parent_after before) place) else found) (rows-have-parents before orderly.1 tree.1 n)
rows-have-parents (Remove i ∷ before) orderly tree n =
    removed-parent-of n i (parent_of i (built before)) (built before) refl
    ∙ ap (λ found. if i == n then None else found) (rows-have-parents before orderly.1 tree.1 n)
rows-have-parents (MoveChildren source target ∷ before) orderly tree n =
    let rows : List Row = built before in
    let empty : List Row = changed source (with_children (λ own. [])) rows in
    let children : List Child = (row_of source rows).children in
    moved-parents n source target (changed target (with_children (λ own. children)) empty)
    ∙ ap (moved_to source target) (changed-parent n target (with_children (λ own. children)) empty (children-keep (λ own. children))
    ∙ changed-parent n source (with_children (λ own. [])) rows (children-keep (λ own. [])) ∙ rows-have-parents before orderly.1 tree.1 n)
rows-have-parents (PutText place text ∷ before) orderly tree n =
    let spot : Spot = spot_of place (built before) in
    changed-parent n spot.parent (with_children (put_among spot.before (Text text))) (built before) (children-keep (put_among spot.before (Text text)))
    ∙ rows-have-parents before orderly.1 tree.1 n
rows-have-parents (PutDoctype name public_id system_id ∷ before) orderly tree n =
    changed-parent n 0 (with_children (added (Doctype name public_id system_id))) (built before) (children-keep (added (Doctype name public_id system_id)))
    ∙ rows-have-parents before orderly.1 tree.1 n
rows-have-parents (AddAttributes i attributes ∷ before) orderly tree n =
    changed-parent n i (λ r. record r { what = with_attributes attributes r.what }) (built before) (record { node = λ r. refl; parent = λ r. refl })
    ∙ rows-have-parents before orderly.1 tree.1 n
rows-have-parents (SetQuirksMode mode ∷ before) orderly tree n = rows-have-parents before orderly.1 tree.1 n
rows-have-parents (MarkStarted i ∷ before) orderly tree n = rows-have-parents before orderly.1 tree.1 n
rows-have-parents (AssociateForm i form place ∷ before) orderly tree n = rows-have-parents before orderly.1 tree.1 n
rows-have-parents (Pop i ∷ before) orderly tree n = rows-have-parents before orderly.1 tree.1 n
rows-have-parents (ParseError mistake ∷ before) orderly tree n = rows-have-parents before orderly.1 tree.1 n
