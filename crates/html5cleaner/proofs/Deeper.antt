-- A greater depth changes nothing where the smaller is not passed.
use Rattle.std.proofs.Common.{◌≡◌, ℕ, ◌*◌, ◌≤◌, Bool, true, false, List, [], ◌∷◌, ◌++◌, length, refl, ap, sym, ◌∙◌, subst, append_assoc}
use Rattle.std.specs.Prelude.{◌&&◌, nat_le}
use Rattle.std.proofs.lemmas.Bool.{and_from, and_parts, le-leb}
use Rattle.html5ever_interface.specs.Sink.{Message}
use Rattle.html5ever_interface.specs.Token.{Told}
use Rattle.html5stream.proofs.Handed.{between-handed}
use Rattle.html5stream.specs.Pages.{runs_handed, runs_page}
use Rattle.markup5ever.specs.NamedReferences.{NamedReference}
use Rattle.html5elements.specs.Hidden.{hidden_after}
use Rattle.html5nested.specs.PageItems.{items_of}
use Rattle.html5policy.specs.Policy.{PolicyOf}
use Rattle.html5tree.specs.Fitting.{open_after}
use Rattle.html5tree.specs.Items.{Item}
use Rattle.html5tree.specs.Keeping.{Keeps}
use Rattle.html5tree.specs.Normal.{IsReady, Plan, fitted, open_after_fitted, stack_after, stays_within, written}
use Rattle.html5tree.proofs.Normalising.{item-after, ready-after, within-first}
use Rattle.html5tree.proofs.Room.{same-plan, stays-later}
use Rattle.html5write.specs.Pieces.{Piece}
use Rattle.html5cleaner.specs.Balance.{closed_at_end, is_end, open_by, with_depth, without_tree, written_by}
use Rattle.html5cleaner.specs.Clean.{Cleaned, at_start, clean_step, kept_where, opens}
use Rattle.html5cleaner.specs.Cleaning.{kept_of_page}
use Rattle.html5cleaner.specs.Shape.{all_fitted, open_after_all, pieces_in, shape_of}
use Rattle.html5cleaner.specs.Shape.Shape.{Tree}
use Rattle.html5cleaner.proofs.Balancing.{AllGo}
use Rattle.html5cleaner.proofs.ItemPieces.{items-append}
use Rattle.html5cleaner.proofs.NestedPages.{GoesOn, IsReadyFor, goes-start, goes-step, shape-tree}
use Rattle.html5cleaner.proofs.OtherPieces.{same-hidden, same-kept}
use Rattle.html5cleaner.proofs.SameReadings.{page-same}
use Rattle.html5cleaner.proofs.TreeTwins.{open-is, page-keeps, written-items}

stays-before : (limit : ℕ) (items more : List Item) (stack : List (List ℕ)) → stays_within limit stack (items ++ more) ≡ true → stays_within limit stack items ≡ true
unfolding stays_within
stays-before limit [] more stack w = le-leb (length stack) limit (within-first limit more stack w)
stays-before limit (item ∷ items) more stack w =
    let p = and_parts (nat_le (length stack) limit) (stays_within limit (open_after stack item) (items ++ more)) w in
    and_from (nat_le (length stack) limit) (stays_within limit (open_after stack item) items) p.0 (stays-before limit items more (open_after stack item) p.1)

record IsSameFor (limit more : ℕ) (stack : List (List ℕ)) (items : List Item) : Type 0 where
  fitted_is : all_fitted limit stack items ≡ all_fitted more stack items
  open_is : open_after_all limit stack items ≡ open_after_all more stack items

same-fitted : (limit more : ℕ) (items rest : List Item) (stack : List (List ℕ)) → limit ≤ more → IsReady more stack
    → stays_within limit stack (all_fitted more stack items ++ rest) ≡ true → IsSameFor limit more stack items
unfolding all_fitted open_after_all
same-fitted limit more [] rest stack less ready w = record { fitted_is = refl; open_is = refl }
same-fitted limit more (item ∷ items) rest stack less ready w =
    let next : List (List ℕ) = open_after_fitted more stack item in
    let after : List Item = all_fitted more next items ++ rest in
    let front : stays_within limit stack (fitted more stack item ++ after) ≡ true =
    subst (λ l. stays_within limit stack l ≡ true) (append_assoc (fitted more stack item) (all_fitted more next items) rest) w in
    let later : stays_within limit next after ≡ true =
    subst (λ (t : List (List ℕ)). stays_within limit t after ≡ true) (item-after more stack item ready) (stays-later limit (fitted more stack item) after stack front) in
    let same = same-plan limit more stack item after less front (within-first limit after next later) in
    let others = same-fitted limit more items rest next less (ready-after more stack item ready) later in
    record {
      fitted_is =
          ap (λ (p : Plan). written p stack item ++ all_fitted limit (stack_after p stack item) items) same
          ∙ ap (λ l. fitted more stack item ++ l) others.fitted_is;
      open_is = ap (λ (p : Plan). open_after_all limit (stack_after p stack item) items) same ∙ others.open_is;
    }

record IsSameBy (limit more : ℕ) (ends : Bool) (stack : List (List ℕ)) (pieces : List Piece) : Type 0 where
  written_is : written_by (Tree limit) ends stack pieces ≡ written_by (Tree more) ends stack pieces
  open_is : open_by (Tree limit) ends stack pieces ≡ open_by (Tree more) ends stack pieces

same-by : (limit more : ℕ) (ends : Bool) (stack : List (List ℕ)) (pieces : List Piece) → limit ≤ more → IsReady more stack
    → stays_within limit stack (items_of (written_by (Tree more) ends stack pieces)) ≡ true → IsSameBy limit more ends stack pieces
unfolding written_by open_by
same-by limit more ends stack pieces less ready w =
    let items : List Item = items_of pieces in
    let closing : List Piece = closed_at_end ends (open_after_all more stack items) in
    let parts : items_of (pieces_in (all_fitted more stack items) ++ closing) ≡ all_fitted more stack items ++ items_of closing =
    items-append (pieces_in (all_fitted more stack items)) closing ∙ ap (λ l. l ++ items_of closing) (written-items more stack pieces ready) in
    let same = same-fitted limit more items (items_of closing) stack less ready (subst (λ l. stays_within limit stack l ≡ true) parts w) in
    record {
      written_is = λ i. pieces_in (same.fitted_is i) ++ closed_at_end ends (same.open_is i);
      open_is = at ends same.open_is;
    }
  where
    at : (b : Bool) → open_after_all limit stack (items_of pieces) ≡ open_after_all more stack (items_of pieces)
        → open_by (Tree limit) b stack pieces ≡ open_by (Tree more) b stack pieces
    at true e = refl
    at false e = e

-- ---- a handler beside one of a greater depth

record IsSameSoFar (c deep : Cleaned) : Type 0 where
  pieces : c.pieces ≡ deep.pieces
  opened : c.opened ≡ deep.opened

record IsDeeper (more : ℕ) (policy : PolicyOf) (c deep : Cleaned) : Type 0 where
  keeps : c.policy ≡ policy
  deeper : deep.policy ≡ with_depth more policy
  hidden : c.hidden ≡ deep.hidden
  tree : policy.tree ≡ true
  less : policy.depth ≤ more
  goes : GoesOn deep
  same : stays_within policy.depth [] (items_of deep.pieces) ≡ true → IsSameSoFar c deep

deeper-step : (more : ℕ) (policy : PolicyOf) (c deep : Cleaned) (run : List ℕ) (told : Told) (line : ℕ) → IsDeeper more policy c deep
    → IsDeeper more policy (clean_step c run told line) (clean_step deep run told line)
deeper-step more policy c deep run told line t =
    let ends : Bool = is_end told in
    let kept : List Piece = kept_where c.policy c.hidden.depth run told in
    let other : List Piece = kept_where deep.policy deep.hidden.depth run told in
    let same : kept ≡ other =
    (λ i. kept_where (t.keeps i) (t.hidden i).depth run told) ∙ same-kept policy policy.balance policy.tree more deep.hidden.depth run told
    ∙ ap (λ p. kept_where p deep.hidden.depth run told) (sym t.deeper) in
    let shape : shape_of c.policy ≡ Tree policy.depth = ap shape_of t.keeps ∙ shape-tree policy t.tree in
    let deep_shape : shape_of deep.policy ≡ Tree more = ap shape_of t.deeper ∙ shape-tree (with_depth more policy) t.tree in
    let ready : IsReady more deep.opened = subst (λ s. IsReadyFor s deep.opened) deep_shape t.goes.1 in
    let go : AllGo (Tree more) [] deep.pieces deep.opened = subst (λ s. AllGo s [] deep.pieces deep.opened) deep_shape t.goes.0 in
    record {
      keeps = t.keeps;
      deeper = t.deeper;
      hidden =
          (λ i. hidden_after (opens (t.keeps i)) (t.hidden i) told) ∙ same-hidden policy policy.balance policy.tree more deep.hidden told
          ∙ ap (λ p. hidden_after (opens p) deep.hidden told) (sym t.deeper);
      tree = t.tree;
      less = t.less;
      goes = goes-step deep run told line t.goes;
      same = λ w.
          let whole : stays_within policy.depth [] (items_of deep.pieces ++ items_of (written_by (Tree more) ends deep.opened other)) ≡ true =
          subst (λ l. stays_within policy.depth [] l ≡ true) (items-append deep.pieces (written_by (Tree more) ends deep.opened other))
          (subst (λ s. stays_within policy.depth [] (items_of (deep.pieces ++ written_by s ends deep.opened other)) ≡ true) deep_shape w) in
          let before = t.same (stays-before policy.depth (items_of deep.pieces) (items_of (written_by (Tree more) ends deep.opened other)) [] whole) in
          let later : stays_within policy.depth deep.opened (items_of (written_by (Tree more) ends deep.opened other)) ≡ true =
          subst (λ (o : List (List ℕ)). stays_within policy.depth o (items_of (written_by (Tree more) ends deep.opened other)) ≡ true)
          (open-is more deep.pieces deep.opened go)
          (stays-later policy.depth (items_of deep.pieces) (items_of (written_by (Tree more) ends deep.opened other)) [] whole) in
          let by = same-by policy.depth more ends deep.opened other t.less ready later in
          record {
            pieces =
                (λ i. before.pieces i ++ written_by (shape i) ends (before.opened i) (same i))
                ∙ ap (λ l. deep.pieces ++ l) (by.written_is ∙ ap (λ s. written_by s ends deep.opened other) (sym deep_shape));
            opened =
                (λ i. open_by (shape i) ends (before.opened i) (same i))
                ∙ by.open_is ∙ ap (λ s. open_by s ends deep.opened other) (sym deep_shape);
          };
    }

start-deeper : (more : ℕ) (policy : PolicyOf) → policy.tree ≡ true → policy.depth ≤ more → IsDeeper more policy (at_start policy) (at_start (with_depth more policy))
start-deeper more policy tree less = record {
  keeps = refl;
  deeper = refl;
  hidden = refl;
  tree = tree;
  less = less;
  goes = goes-start (with_depth more policy);
  same = λ w. record { pieces = refl; opened = refl };
}

-- of a page whose bytes are given
page-not_reached : (policy : PolicyOf) (references : List NamedReference) (bytes : List ℕ) (more : ℕ) → policy.tree ≡ true → policy.depth ≤ more
    → stays_within policy.depth [] (items_of (kept_of_page (with_depth more policy) references bytes)) ≡ true
    → kept_of_page policy references bytes ≡ kept_of_page (with_depth more policy) references bytes
page-not_reached policy references bytes more tree less w =
    let M : List Message = runs_page clean_step references (at_start policy) bytes in
    let same : (runs_handed clean_step (at_start (with_depth more policy)) M).pieces ≡ kept_of_page (with_depth more policy) references bytes =
    ap (λ N. (runs_handed clean_step (at_start (with_depth more policy)) N).pieces)
    (page-same clean_step clean_step references (at_start policy) (at_start (with_depth more policy)) bytes) in
    let twins = between-handed clean_step clean_step (IsDeeper more policy) (deeper-step more policy) (at_start policy) (at_start (with_depth more policy)) M (start-deeper more policy tree less) in
    (twins.same (subst (λ p. stays_within policy.depth [] (items_of p) ≡ true) (sym same) w)).pieces ∙ same

pub page-keeps_all : (policy : PolicyOf) (references : List NamedReference) (bytes : List ℕ) (more : ℕ) → policy.tree ≡ true → policy.depth ≤ more
    → 8 * length (items_of (kept_of_page (without_tree policy) references bytes)) ≤ more
    → stays_within policy.depth [] (items_of (kept_of_page (with_depth more policy) references bytes)) ≡ true
    → Keeps true [] (items_of (kept_of_page (without_tree policy) references bytes)) (items_of (kept_of_page policy references bytes))
page-keeps_all policy references bytes more tree less enough w =
    subst (λ p. Keeps true [] (items_of (kept_of_page (without_tree policy) references bytes)) (items_of p)) (sym (page-not_reached policy references bytes more tree less w))
    (page-keeps true more policy references bytes tree (λ e. enough))
