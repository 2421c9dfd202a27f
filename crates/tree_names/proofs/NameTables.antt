-- The tables of names: what stands at a place.
use Rattle.std.proofs.Common.{◌≡◌, ℕ, suc, ◌<◌, Bool, true, false, List, [], ◌∷◌, length, get_or, refl, ap, sym, ◌∙◌, subst, arith, Bor}
use Rattle.std.specs.Prelude.{map, nat_eq, slice_index, ◌==◌, if◌then◌else◌}
use Rattle.std.specs.List.{list_all}
use Rattle.std.specs.Str.{bytes_eq}
use Rattle.std.proofs.lemmas.Bool.{agree_below, agree_below_at, false≢true, false_from_ne_true, and_parts, eqb-false, eqb-true}
use Rattle.std.proofs.lemmas.List.{get_or-map, length-map}
use Rattle.std.proofs.lemmas.Slice.Eq.{bytes_eq-Decides}
use Rattle.tree_construction.specs.Names.{NamesOf, is_among, kind_in, all_names, kind_of}
use Rattle.tree_construction.specs.declared.kinds.Kind.{Kind}
use Rattle.tree_construction.specs.declared.kinds.Kind.TheVariants.{Ordinary}
use Rattle.tree_names.specs.Slots.{finds, finds_all, name_at, slot_of, known_names}

pub name-read : (xs : List (Bor (List ℕ))) (place : ℕ) (d : Bor (List ℕ)) → map (λ x. x.now) xs ≡ known_names → place < 115
    → (get_or xs place d).now ≡ name_at place
name-read xs place d e h =
    let l : place < length xs = omega (arith, h, sym (length-map xs (λ (x : Bor (List ℕ)). x.now)) ∙ ap length e) in
    sym (get_or-map (λ (x : Bor (List ℕ)). x.now) xs place d [] l) ∙ ap (λ ys. get_or ys place []) e

pub kind-read : (xs : List Kind) (place : ℕ) (d : Kind) → xs ≡ map kind_of known_names → place < 115 → get_or xs place d ≡ kind_of (name_at place)
kind-read xs place d e h =
    ap (λ ys. get_or ys place d) e ∙ get_or-map kind_of known_names place [] d h

-- ---- a name that isn't found is of no kind

found-among : (test : List ℕ → Bool) (name : List ℕ) (names : List (List ℕ)) → list_all test names ≡ true → is_among name names ≡ true → test name ≡ true
unfolding is_among
found-among test name [] all among = absurd (false≢true among)
found-among test name (other ∷ names) all among =
    let p = and_parts (test other) (list_all test names) all in
    at (bytes_eq other name) refl among (found-among test name names p.1) p.0
  where
    at : (b : Bool) → bytes_eq other name ≡ b → (if b then true else is_among name names) ≡ true → (is_among name names ≡ true → test name ≡ true)
        → test other ≡ true → test name ≡ true
    at true same among again here = subst (λ x. test x ≡ true) ((bytes_eq-Decides other name).0 same) here
    at false other among again here = again among

ordinary-row : (test : List ℕ → Bool) (name : List ℕ) (rows : List NamesOf) → list_all (λ row. list_all test row.names) rows ≡ true → test name ≡ false
    → kind_in rows name ≡ Ordinary
unfolding kind_in
ordinary-row test name [] all none = refl
ordinary-row test name (row ∷ rows) all none =
    let p = and_parts (list_all test row.names) (list_all (λ row. list_all test row.names) rows) all in
    at (is_among name row.names) refl (ordinary-row test name rows p.1 none) (found-among test name row.names p.0)
  where
    at : (b : Bool) → is_among name row.names ≡ b → kind_in rows name ≡ Ordinary → (is_among name row.names ≡ true → test name ≡ true)
        → (if b then row.kind else kind_in rows name) ≡ Ordinary
    at true among again found = absurd (false≢true (sym none ∙ found among))
    at false among again found = again

pub ordinary-text : (places text shown bytes : List ℕ) (slot : ℕ) → finds_all places ≡ true → shown ≡ name_at (slice_index places slot)
    → slot ≡ slot_of bytes → bytes ≡ text → bytes_eq shown text ≡ false → kind_of text ≡ Ordinary
unfolding kind_of finds_all
ordinary-text places text shown bytes slot all shows at_slot same other =
    let slots : slot ≡ slot_of text = at_slot ∙ ap slot_of same in
    ordinary-row (finds places) text all_names all
    (ap (λ s. bytes_eq (name_at (slice_index places s)) text) (sym slots) ∙ (ap (λ x. bytes_eq x text) (sym shows) ∙ other))

pub ordinary-empty : (text : List ℕ) → (length text == 0) ≡ true → kind_of text ≡ Ordinary
unfolding kind_of kind_in all_names is_among
ordinary-empty [] h = refl
ordinary-empty (c ∷ text) h = let e : length (c ∷ text) ≡ 0 = eqb-true (length (c ∷ text)) 0 h in absurd (omega (arith, e))

-- ---- no name stands at two places

place_among : List ℕ → List (List ℕ) → ℕ
place_among name [] = 0
place_among name (other ∷ names) = if bytes_eq other name then 0 else suc (place_among name names)

placed : agree_below (λ i. place_among (name_at i) known_names == i) (λ i. true) 115 ≡ true
unfolding place_among
placed = refl

place-at : (i : ℕ) → i < 115 → place_among (name_at i) known_names ≡ i
place-at i h =
    eqb-true (place_among (name_at i) known_names) i (agree_below_at (λ i. place_among (name_at i) known_names == i) (λ i. true) 115 i placed h)

pub same-place : (a b : ℕ) → a < 115 → b < 115 → nat_eq a b ≡ bytes_eq (name_at a) (name_at b)
same-place a b h i = at (nat_eq a b) refl
  where
    at : (t : Bool) → nat_eq a b ≡ t → t ≡ bytes_eq (name_at a) (name_at b)
    at true e = sym ((bytes_eq-Decides (name_at a) (name_at b)).1 (ap name_at (eqb-true a b e)))
    at false e =
        sym (false_from_ne_true (bytes_eq (name_at a) (name_at b))
        (λ s. eqb-false a b e (sym (place-at a h) ∙ (ap (λ x. place_among x known_names) ((bytes_eq-Decides (name_at a) (name_at b)).0 s) ∙ place-at b i))))
