-- What the rule `tree` makes of what the policy keeps without it.
use Rattle.std.proofs.Common.{◌≡◌, ℕ, ◌+◌, ◌*◌, ◌≤◌, Bool, true, false, List, [], ◌∷◌, ◌++◌, length, map, refl, ap, sym, ◌∙◌, subst, arith, length-append}
use Rattle.std.specs.Prelude.{encode_utf8_all, if◌then◌else◌}
use Rattle.std.proofs.lemmas.Bool.{false≢true}
use Rattle.std.proofs.lemmas.List.{append-nil}
use Rattle.html5ever_interface.specs.Sink.{Message}
use Rattle.html5ever_interface.specs.Token.{Told}
use Rattle.html5stream.proofs.Handed.{between-handed}
use Rattle.html5stream.specs.Pages.{runs_handed, runs_page}
use Rattle.markup5ever.specs.NamedReferences.{NamedReference}
use Rattle.html5elements.specs.Hidden.{Hidden, hidden_after}
use Rattle.html5nested.specs.PageItems.{items_of}
use Rattle.html5policy.specs.Policy.{PolicyOf}
use Rattle.html5tree.specs.Items.{Item}
use Rattle.html5tree.specs.Items.Item.{EndTag}
use Rattle.html5tree.specs.Keeping.{AreAdded, Keeps}
use Rattle.html5tree.specs.Fitting.{all_open_after}
use Rattle.html5tree.specs.Normal as normal
use Rattle.html5tree.specs.Normal.{IsReady, fitted, open_after_fitted}
use Rattle.html5tree.proofs.Bounds.{item-cost}
use Rattle.html5tree.proofs.Keeping.{added-ends, added-none, keeps-added, keeps-append, keeps-item}
use Rattle.html5tree.proofs.Normalising.{ready-after}
use Rattle.html5tree.proofs.RightPlans.{open-fitting}
use Rattle.html5write.specs.Pieces.{Piece}
use Rattle.html5cleaner.specs.Balance.{closed_at_end, end_tags, is_end, open_by, with_depth, without_tree, written_by}
use Rattle.html5cleaner.specs.Clean.{Cleaned, at_start, clean_step, kept_where, opens}
use Rattle.html5cleaner.specs.Cleaning.{kept_of_page}
use Rattle.html5cleaner.specs.Shape.{Shape, all_fitted, open_after_all, pieces_in, shape_by_balance, shape_of}
use Rattle.html5cleaner.specs.Shape.Shape.{AsKept, Tree}
use Rattle.html5cleaner.proofs.Balancing.{AllGo}
use Rattle.html5cleaner.proofs.FittedItems.{of-all}
use Rattle.html5cleaner.proofs.ItemPieces.{IsSame, items-append, same-closed, same-items, same-open, same-pieces}
use Rattle.html5cleaner.proofs.NestedPages.{GoesOn, IsReadyFor, goes-start, goes-step, shape-tree}
use Rattle.html5cleaner.proofs.OtherPieces.{same-hidden, same-kept}
use Rattle.html5cleaner.proofs.SameReadings.{page-same}
use Rattle.html5cleaner.proofs.TreePages.{go-fitting}

-- ---- what is written for some pieces

fitted-keeps : (enough : Bool) (limit : ℕ) (stack : List (List ℕ)) (items : List Item) → IsReady limit stack → (enough ≡ true → length stack + 8 * length items ≤ limit)
    → Keeps enough stack items (all_fitted limit stack items)
unfolding all_fitted
fitted-keeps enough limit stack [] ready room = keeps-added enough stack [] added-none
fitted-keeps enough limit stack (item ∷ items) ready room =
    let cost = item-cost limit stack item in
    keeps-item enough limit stack item items (all_fitted limit (open_after_fitted limit stack item) items) ready
    (λ e. let r = room e in omega (arith, r))
    (fitted-keeps enough limit (open_after_fitted limit stack item) items (ready-after limit stack item ready) (λ e. let r = room e in omega (arith, r, cost)))

fitted-short : (limit : ℕ) (stack : List (List ℕ)) (items : List Item) → length (open_after_all limit stack items) ≤ length stack + 8 * length items
unfolding open_after_all
fitted-short limit stack [] = omega arith
fitted-short limit stack (item ∷ items) =
    let cost = item-cost limit stack item in
    let later = fitted-short limit (open_after_fitted limit stack item) items in
    omega (arith, cost, later)

ends-items : (names : List (List ℕ)) → items_of (end_tags names) ≡ normal.end_tags (map encode_utf8_all names)
unfolding items_of
ends-items [] = refl
ends-items (name ∷ names) = ap (λ l. EndTag (encode_utf8_all name) ∷ l) (ends-items names)

-- what is written to fit, as items
pub written-items : (limit : ℕ) (stack : List (List ℕ)) (pieces : List Piece) → IsReady limit stack
    → items_of (pieces_in (all_fitted limit stack (items_of pieces))) ≡ all_fitted limit stack (items_of pieces)
written-items limit stack pieces ready =
    same-items (all_fitted limit stack (items_of pieces))
    (of-all IsSame same-closed limit stack (items_of pieces) (same-open stack ready.stand) (same-pieces pieces)).0

end-added : (ends : Bool) (stack : List (List ℕ)) → AreAdded (items_of (closed_at_end ends stack))
unfolding items_of
end-added true stack = subst AreAdded (sym (ends-items stack)) (added-ends (map encode_utf8_all stack))
end-added false stack = added-none

written-keeps : (enough : Bool) (limit : ℕ) (ends : Bool) (stack : List (List ℕ)) (pieces : List Piece) → IsReady limit stack
    → (enough ≡ true → length stack + 8 * length (items_of pieces) ≤ limit)
    → Keeps enough stack (items_of pieces) (items_of (written_by (Tree limit) ends stack pieces))
unfolding written_by
written-keeps enough limit ends stack pieces ready room =
    let items : List Item = items_of pieces in
    let closing : List Piece = closed_at_end ends (open_after_all limit stack items) in
    subst (Keeps enough stack items) (sym (items-append (pieces_in (all_fitted limit stack items)) closing ∙ ap (λ l. l ++ items_of closing) (written-items limit stack pieces ready)))
    (subst (λ l. Keeps enough stack l (all_fitted limit stack items ++ items_of closing)) (append-nil items)
    (keeps-append enough stack items (all_fitted limit stack items) [] (items_of closing) (fitted-keeps enough limit stack items ready room)
    (keeps-added enough _ (items_of closing) (end-added ends (open_after_all limit stack items)))))

open-short : (limit : ℕ) (ends : Bool) (stack : List (List ℕ)) (pieces : List Piece)
    → length (open_by (Tree limit) ends stack pieces) ≤ length stack + 8 * length (items_of pieces)
unfolding open_by
open-short limit true stack pieces = omega arith
open-short limit false stack pieces = fitted-short limit stack (items_of pieces)

-- ---- a handler beside one without the rule

-- enough may be open for all that was kept
abbrev HasRoomFor : Bool → ℕ → List Piece → Type 0
HasRoomFor enough limit pieces = enough ≡ true → 8 * length (items_of pieces) ≤ limit

length-items : (first second : List Piece) → length (items_of (first ++ second)) ≡ length (items_of first) + length (items_of second)
length-items first second = ap length (items-append first second) ∙ length-append (items_of first) (items_of second)

step-keeps : (enough : Bool) (limit : ℕ) (ends : Bool) (opened : List (List ℕ)) (plain made kept : List Piece) → IsReady limit opened
    → length opened ≤ 8 * length (items_of plain) → all_open_after [] (items_of made) ≡ opened
    → (HasRoomFor enough limit plain → Keeps enough [] (items_of plain) (items_of made))
    → HasRoomFor enough limit (plain ++ kept) → Keeps enough [] (items_of (plain ++ kept)) (items_of (made ++ written_by (Tree limit) ends opened kept))
step-keeps enough limit ends opened plain made kept ready short leaves before room =
    let both = length-items plain kept in
    let more : List Piece = written_by (Tree limit) ends opened kept in
    subst (λ l. Keeps enough [] l (items_of (made ++ more))) (sym (items-append plain kept))
    (subst (λ l. Keeps enough [] (items_of plain ++ items_of kept) l) (sym (items-append made more))
    (keeps-append enough [] (items_of plain) (items_of made) (items_of kept) (items_of more)
    (before (λ e. let r = room e in omega (arith, r, both)))
    (subst (λ (o : List (List ℕ)). Keeps enough o (items_of kept) (items_of more)) (sym leaves)
    (written-keeps enough limit ends opened kept ready (λ e. let r = room e in omega (arith, r, both, short))))))

-- the open elements are those that its pieces leave open
pub open-is : (limit : ℕ) (pieces : List Piece) (opened : List (List ℕ)) → AllGo (Tree limit) [] pieces opened → all_open_after [] (items_of pieces) ≡ opened
open-is limit pieces opened go = open-fitting limit [] opened (items_of pieces) (go-fitting limit [] opened pieces go)

record IsTwin (enough : Bool) (limit : ℕ) (policy : PolicyOf) (c twin : Cleaned) : Type 0 where
  keeps : c.policy ≡ with_depth limit policy
  plain : twin.policy ≡ without_tree policy
  hidden : c.hidden ≡ twin.hidden
  tree : policy.tree ≡ true
  goes : GoesOn c
  short : length c.opened ≤ 8 * length (items_of twin.pieces)
  kept : HasRoomFor enough limit twin.pieces → Keeps enough [] (items_of twin.pieces) (items_of c.pieces)

as-kept : (shape : Shape) (ends : Bool) (opened : List (List ℕ)) (pieces : List Piece) → shape ≡ AsKept → written_by shape ends opened pieces ≡ pieces
unfolding written_by
as-kept shape ends opened pieces is = ap (λ s. written_by s ends opened pieces) is

twin-step : (enough : Bool) (limit : ℕ) (policy : PolicyOf) (c twin : Cleaned) (run : List ℕ) (told : Told) (line : ℕ) → IsTwin enough limit policy c twin
    → IsTwin enough limit policy (clean_step c run told line) (clean_step twin run told line)
twin-step enough limit policy c twin run told line t =
    let kept : List Piece = kept_where c.policy c.hidden.depth run told in
    let other : List Piece = kept_where twin.policy twin.hidden.depth run told in
    let same : kept ≡ other =
    (λ i. kept_where (t.keeps i) (t.hidden i).depth run told) ∙ sym (same-kept policy policy.balance policy.tree limit twin.hidden.depth run told)
    ∙ same-kept policy false false policy.depth twin.hidden.depth run told ∙ ap (λ p. kept_where p twin.hidden.depth run told) (sym t.plain) in
    let shape : shape_of c.policy ≡ Tree limit = ap shape_of t.keeps ∙ shape-tree (with_depth limit policy) t.tree in
    let plain : written_by (shape_of twin.policy) (is_end told) twin.opened other ≡ other =
    as-kept (shape_of twin.policy) (is_end told) twin.opened other (ap shape_of t.plain) in
    let written : written_by (shape_of c.policy) (is_end told) c.opened kept ≡ written_by (Tree limit) (is_end told) c.opened other =
    λ i. written_by (shape i) (is_end told) c.opened (same i) in
    let opening : open_by (shape_of c.policy) (is_end told) c.opened kept ≡ open_by (Tree limit) (is_end told) c.opened other =
    λ i. open_by (shape i) (is_end told) c.opened (same i) in
    let ready : IsReady limit c.opened = subst (λ s. IsReadyFor s c.opened) shape t.goes.1 in
    let leaves = open-is limit c.pieces c.opened (subst (λ s. AllGo s [] c.pieces c.opened) shape t.goes.0) in
    record {
      keeps = t.keeps;
      plain = t.plain;
      hidden = (λ i. hidden_after (opens (t.keeps i)) (t.hidden i) told) ∙ sym (same-hidden policy policy.balance policy.tree limit twin.hidden told)
          ∙ same-hidden policy false false policy.depth twin.hidden told ∙ ap (λ p. hidden_after (opens p) twin.hidden told) (sym t.plain);
      tree = t.tree;
      goes = goes-step c run told line t.goes;
      short =
          let l = open-short limit (is_end told) c.opened other in
          let s = t.short in
          let both = length-items twin.pieces other in
          let m : length (open_by (Tree limit) (is_end told) c.opened other) ≤ 8 * length (items_of (twin.pieces ++ other)) = omega (arith, l, s, both) in
          subst (λ p. length (open_by (shape_of c.policy) (is_end told) c.opened kept) ≤ 8 * length (items_of (twin.pieces ++ p))) (sym plain)
          (subst (λ (o : List (List ℕ)). length o ≤ 8 * length (items_of (twin.pieces ++ other))) (sym opening) m);
      kept = λ room.
          let room_for : HasRoomFor enough limit (twin.pieces ++ other) = subst (λ p. HasRoomFor enough limit (twin.pieces ++ p)) plain room in
          subst (λ p. Keeps enough [] (items_of (twin.pieces ++ p)) (items_of (c.pieces ++ written_by (shape_of c.policy) (is_end told) c.opened kept))) (sym plain)
          (subst (λ p. Keeps enough [] (items_of (twin.pieces ++ other)) (items_of (c.pieces ++ p))) (sym written)
          (step-keeps enough limit (is_end told) c.opened twin.pieces c.pieces other ready t.short leaves t.kept room_for));
    }

start-twins : (enough : Bool) (limit : ℕ) (policy : PolicyOf) → policy.tree ≡ true → IsTwin enough limit policy (at_start (with_depth limit policy)) (at_start (without_tree policy))
unfolding items_of
start-twins enough limit policy tree = record {
  keeps = refl;
  plain = refl;
  hidden = refl;
  tree = tree;
  goes = goes-start (with_depth limit policy);
  short = omega arith;
  kept = λ room. keeps-added enough [] (items_of []) added-none;
}

-- of a page whose bytes are given, by a policy of any depth
pub page-keeps : (enough : Bool) (limit : ℕ) (policy : PolicyOf) (references : List NamedReference) (bytes : List ℕ) → policy.tree ≡ true
    → (enough ≡ true → 8 * length (items_of (kept_of_page (without_tree policy) references bytes)) ≤ limit)
    → Keeps enough [] (items_of (kept_of_page (without_tree policy) references bytes)) (items_of (kept_of_page (with_depth limit policy) references bytes))
page-keeps enough limit policy references bytes tree room =
    let start : Cleaned = at_start (with_depth limit policy) in
    let M : List Message = runs_page clean_step references start bytes in
    let same : (runs_handed clean_step (at_start (without_tree policy)) M).pieces ≡ kept_of_page (without_tree policy) references bytes =
    ap (λ N. (runs_handed clean_step (at_start (without_tree policy)) N).pieces)
    (page-same clean_step clean_step references start (at_start (without_tree policy)) bytes) in
    let twins = between-handed clean_step clean_step (IsTwin enough limit policy) (twin-step enough limit policy) start (at_start (without_tree policy)) M (start-twins enough limit policy tree) in
    subst (λ p. Keeps enough [] (items_of p) (items_of (kept_of_page (with_depth limit policy) references bytes))) same
    (twins.kept (λ e. subst (λ p. 8 * length (items_of p) ≤ limit) (sym same) (room e)))

pub page-keeps_some : (policy : PolicyOf) (references : List NamedReference) (bytes : List ℕ) → policy.tree ≡ true
    → Keeps false [] (items_of (kept_of_page (without_tree policy) references bytes)) (items_of (kept_of_page policy references bytes))
page-keeps_some policy references bytes tree = page-keeps false policy.depth policy references bytes tree (λ e. absurd (false≢true e))
