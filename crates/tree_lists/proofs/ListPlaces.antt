-- A search by node finds where its entry stands in the list of active formatting elements.
use Rattle.std.proofs.Common.{◌≡◌, ℕ, zero, suc, ◌+◌, ◌<◌, true, false, List, [], ◌∷◌, ◌++◌, Some, length, take, drop, refl, ap, ◌∙◌, arith, add-one}
use Rattle.std.specs.Prelude.{◌==◌}
use Rattle.markup5ever.specs.Names.{AttributeOf}
use Rattle.tree_construction.specs.Adoption.{added_after, entry_of, replaced}
use Rattle.tree_construction.specs.Formatting.{Listed, has_entry, is_entry_of, without_entry}
use Rattle.tree_construction.specs.Parser.{Entry}
use Rattle.tree_construction.specs.Parser.Entry.{Active, Marker}
use Rattle.tree_construction.specs.declared.kinds.Kind.{Kind}
use Rattle.tree_lists.proofs.OpenPlaces.{if-false}
use Rattle.tree_lists.specs.Formatting.{active_of}
use Rattle.tree_lists.specs.ListPlaces.{IsListedAt, IsNotListed}

record ListedAt (n : ℕ) (list : List Entry) (d : ℕ) (e : Listed) : Type 0 where
  within : d < length list
  has : has_entry n list ≡ true
  element : entry_of n list ≡ Some e
  without : without_entry n list ≡ take d list ++ drop (suc d) list
  replaced : (new : Entry) → replaced n new list ≡ take d list ++ new ∷ drop (suc d) list
  added : (new : Entry) → added_after n new list ≡ take d list ++ new ∷ drop d list

-- an entry that is passed leaves the search as it is
entry-passed : (n : ℕ) (x : Entry) (list : List Entry) → is_entry_of n x ≡ false → entry_of n (x ∷ list) ≡ entry_of n list
unfolding entry_of
entry-passed n Marker list h = refl
entry-passed n (Active m kind name attributes) list h = rw h refl

listed-at : (n : ℕ) (list : List Entry) (d : ℕ) (e : Listed) (rest : List Entry) → has_entry n (take d list) ≡ false → drop d list ≡ active_of e ∷ rest
    → (e.node == n) ≡ true → ListedAt n list d e
unfolding has_entry without_entry replaced added_after entry_of
listed-at n [] zero e rest h f t = cc
listed-at n [] (suc d) e rest h f t = cc
listed-at n (x ∷ list) zero e rest h f t =
    let same : x ≡ active_of e = cc in
    let test : is_entry_of n x ≡ true = ap (is_entry_of n) same ∙ t in
    record {
      within = omega arith;
      has = rw test refl;
      element = rw same (rw t refl);
      without = rw test refl;
      replaced = λ new. rw test refl;
      added = λ new. rw test refl;
    }
listed-at n (x ∷ list) (suc d) e rest h f t =
    let s = if-false (is_entry_of n x) (has_entry n (take d list)) h in
    let r = listed-at n list d e rest s.1 f t in
    let w = r.within in
    record {
      within = omega arith;
      has = rw s.0 r.has;
      element = entry-passed n x list s.0 ∙ r.element;
      without = rw s.0 (ap (λ ys. x ∷ ys) r.without);
      replaced = λ new. rw s.0 (ap (λ ys. x ∷ ys) (r.replaced new));
      added = λ new. rw s.0 (ap (λ ys. x ∷ ys) (r.added new));
    }

pub stands-listed : (n : ℕ) (list : List Entry) (d : ℕ) (x : Entry) → has_entry n (take d list) ≡ false → drop d list ≡ x ∷ drop (d + 1) list
    → is_entry_of n x ≡ true → (e : Listed) × IsListedAt n list d e
stands-listed n list d Marker h f t = cc
stands-listed n list d (Active m kind name attributes) h f t =
    let e : Listed = record { node = m; kind = kind; name = name; attributes = attributes } in
    let r = listed-at n list d e (drop (d + 1) list) h f t in (
      e,
      record {
        within = r.within;
        stands = f;
        has = r.has;
        element = r.element;
        without = rw (add-one d) r.without;
        replaced = λ new. rw (add-one d) (r.replaced new);
        added = r.added;
      },
    )

passed-listed-suc : (n : ℕ) (list : List Entry) (d : ℕ) (e : Entry) (rest : List Entry) → has_entry n (take d list) ≡ false → drop d list ≡ e ∷ rest
    → is_entry_of n e ≡ false → has_entry n (take (suc d) list) ≡ false
unfolding has_entry
passed-listed-suc n [] zero e rest h f t = refl
passed-listed-suc n [] (suc d) e rest h f t = refl
passed-listed-suc n (x ∷ list) zero e rest h f t =
    let same : x ≡ e = cc in
    let test : is_entry_of n x ≡ false = ap (is_entry_of n) same ∙ t in
    rw test refl
passed-listed-suc n (x ∷ list) (suc d) e rest h f t =
    let s = if-false (is_entry_of n x) (has_entry n (take d list)) h in
    rw s.0 (passed-listed-suc n list d e rest s.1 f t)

pub passed-listed : (n : ℕ) (list : List Entry) (d : ℕ) (e : Entry) (rest : List Entry) → has_entry n (take d list) ≡ false → drop d list ≡ e ∷ rest
    → is_entry_of n e ≡ false → has_entry n (take (d + 1) list) ≡ false
passed-listed n list d e rest h f t = rw (add-one d) (passed-listed-suc n list d e rest h f t)

pub none-listed : (n : ℕ) (list : List Entry) → has_entry n list ≡ false → IsNotListed n list
unfolding has_entry without_entry replaced added_after entry_of
none-listed n [] h = record { has = refl; element = refl; without = refl; replaced = λ new. refl; added = λ new. refl }
none-listed n (x ∷ list) h =
    let s = if-false (is_entry_of n x) (has_entry n list) h in
    let r = none-listed n list s.1 in
    record {
      has = h;
      element = entry-passed n x list s.0 ∙ r.element;
      without = rw s.0 (ap (λ ys. x ∷ ys) r.without);
      replaced = λ new. rw s.0 (ap (λ ys. x ∷ ys) (r.replaced new));
      added = λ new. rw s.0 (ap (λ ys. x ∷ ys) (r.added new));
    }

abbrev listed : ℕ → Kind → List ℕ → List AttributeOf → Listed
listed n kind name attributes = record { node = n; kind = kind; name = name; attributes = attributes }

pub same-listed : (a b : Listed) (rest others : List Entry) → active_of a ∷ rest ≡ active_of b ∷ others → a ≡ b
same-listed a b rest others e =
    let node : a.node ≡ b.node = cc in
    let kind : a.kind ≡ b.kind = cc in
    let name : a.name ≡ b.name = cc in
    let attributes : a.attributes ≡ b.attributes = cc in
    ap (λ x. listed x a.kind a.name a.attributes) node
    ∙ (ap (λ x. listed b.node x a.name a.attributes) kind
    ∙ (ap (λ x. listed b.node b.kind x a.attributes) name ∙ ap (listed b.node b.kind b.name) attributes))
