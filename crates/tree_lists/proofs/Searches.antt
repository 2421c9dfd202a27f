-- Searches in the list of active formatting elements: entries that are opened again, the earliest of those that are alike, the earliest after the
-- last marker.
use Rattle.std.proofs.Common.{◌≡◌, ℕ, zero, suc, ◌+◌, ◌-◌, ◌<◌, ◌≤◌, true, false, List, [], ◌∷◌, ◌++◌, length, take, drop, refl, ap, subst, sym, ◌∙◌, arith, add-one, append_assoc}
use Rattle.std.proofs.lemmas.Bool.Decides.{nat_tests}
use Rattle.std.proofs.lemmas.List.{drop_all, take-append-drop}
use Rattle.std.specs.Prelude.{◌==◌}
use Rattle.markup5ever.specs.Names.{AttributeOf}
use Rattle.tree_construction.specs.Formatting.{Listed, count_after_marker, count_alike, is_alike, without_earliest, without_oldest}
use Rattle.tree_construction.specs.Parser.{Entry}
use Rattle.tree_construction.specs.Parser.Entry.{Active, Marker}
use Rattle.tree_lists.specs.Formatting.{active_of}
use Rattle.tree_lists.specs.ListPlaces.{IsEarliest, IsOldest}

take-more : {Y : Type 0} (d : ℕ) (list : List Y) (x : Y) (rest : List Y) → drop d list ≡ x ∷ rest → take (suc d) list ≡ take d list ++ x ∷ []
take-more zero [] x rest e = cc
take-more zero (y ∷ list) x rest e = let f : y ≡ x = cc in ap (λ z. z ∷ []) f
take-more (suc d) [] x rest e = cc
take-more (suc d) (y ∷ list) x rest e = ap (λ ys. y ∷ ys) (take-more d list x rest e)

pub take-one_more : {Y : Type 0} (d : ℕ) (list : List Y) (x : Y) (rest : List Y) → drop d list ≡ x ∷ rest → take (d + 1) list ≡ take d list ++ x ∷ []
take-one_more d list x rest e = rw (add-one d) (take-more d list x rest e)

-- ---- the earliest entry that is like an element

pub record IsCounting (name : List ℕ) (attributes : List AttributeOf) (list : List Entry) (total seen d : ℕ) : Type 0 where
  pub counted : seen + count_alike name attributes (drop d list) ≡ total
  pub same : without_earliest name attributes list ≡ take d list ++ without_earliest name attributes (drop d list)
  pub within : seen ≤ d

join-more : (d : ℕ) (list front : List Entry) (x : Entry) (more : List Entry) → drop d list ≡ x ∷ drop (d + 1) list → front ≡ take d list ++ x ∷ more
    → front ≡ take (d + 1) list ++ more
join-more d list front x more f e =
    e ∙ (sym (append_assoc (take d list) (x ∷ []) more) ∙ ap (λ ys. ys ++ more) (sym (take-one_more d list x (drop (d + 1) list) f)))

-- one that is not like it
pub counting-other : (name : List ℕ) (attributes : List AttributeOf) (other : Listed) (list : List Entry) (total seen d : ℕ) → IsCounting name attributes list total seen d → drop d list ≡ active_of other ∷ drop (d + 1) list
    → is_alike other.name other.attributes name attributes ≡ false → IsCounting name attributes list total seen (d + 1)
unfolding count_alike without_earliest
counting-other name attributes other list total seen d s f t =
    let n : count_alike name attributes (drop d list) ≡ count_alike name attributes (drop (d + 1) list) = rw f (rw t refl) in
    let w : without_earliest name attributes (drop d list) ≡ active_of other ∷ without_earliest name attributes (drop (d + 1) list) = rw f (rw t refl) in
    let h = s.within in
    record {
      counted = ap (λ k. seen + k) (sym n) ∙ s.counted;
      same = join-more d list (without_earliest name attributes list) (active_of other) (without_earliest name attributes (drop (d + 1) list)) f (s.same ∙ ap (λ ys. take d list ++ ys) w);
      within = omega arith;
    }

zero-test : (n : ℕ) → (n ≡ 0 → ⊥) → (n == 0) ≡ false
zero-test n h = grind (arith, nat_tests)

-- one that is like it, and not the earliest
pub counting-more : (name : List ℕ) (attributes : List AttributeOf) (other : Listed) (list : List Entry) (total seen d : ℕ) → IsCounting name attributes list total seen d → drop d list ≡ active_of other ∷ drop (d + 1) list
    → is_alike other.name other.attributes name attributes ≡ true → (seen + 1 ≡ total → ⊥) → IsCounting name attributes list total (seen + 1) (d + 1)
unfolding count_alike without_earliest
counting-more name attributes other list total seen d s f t other_total =
    let n : count_alike name attributes (drop d list) ≡ suc (count_alike name attributes (drop (d + 1) list)) = rw f (rw t refl) in
    let h = s.within in
    let k = s.counted in
    let some : (count_alike name attributes (drop (d + 1) list) ≡ 0 → ⊥) = λ z. other_total (omega (arith, z, n, k)) in
    let w : without_earliest name attributes (drop d list) ≡ active_of other ∷ without_earliest name attributes (drop (d + 1) list) =
    rw f (rw (t, zero-test (count_alike name attributes (drop (d + 1) list)) some) refl) in
    record {
      counted = omega (arith, n, k);
      same = join-more d list (without_earliest name attributes list) (active_of other) (without_earliest name attributes (drop (d + 1) list)) f (s.same ∙ ap (λ ys. take d list ++ ys) w);
      within = omega arith;
    }

pub counting-found : (name : List ℕ) (attributes : List AttributeOf) (other : Listed) (list : List Entry) (total seen d : ℕ) → IsCounting name attributes list total seen d → drop d list ≡ active_of other ∷ drop (d + 1) list
    → is_alike other.name other.attributes name attributes ≡ true → seen + 1 ≡ total → d < length list → IsEarliest name attributes list d
unfolding count_alike without_earliest
counting-found name attributes other list total seen d s f t same_total h =
    let n : count_alike name attributes (drop d list) ≡ suc (count_alike name attributes (drop (d + 1) list)) = rw f (rw t refl) in
    let k = s.counted in
    let none : count_alike name attributes (drop (d + 1) list) ≡ 0 = omega (arith, n, k) in
    let w : without_earliest name attributes (drop d list) ≡ drop (d + 1) list = rw f (rw (t, none) refl) in
    record { within = h; without = s.same ∙ ap (λ ys. take d list ++ ys) w }

pub counting-end : (name : List ℕ) (attributes : List AttributeOf) (list : List Entry) (total seen d : ℕ) → IsCounting name attributes list total seen d → without_earliest name attributes (drop d list) ≡ drop d list
    → without_earliest name attributes list ≡ list
counting-end name attributes list total seen d s w = s.same ∙ (ap (λ ys. take d list ++ ys) w ∙ take-append-drop d list)

pub counting-marker : (name : List ℕ) (attributes : List AttributeOf) (list : List Entry) (total seen d : ℕ) → IsCounting name attributes list total seen d → drop d list ≡ Marker ∷ drop (d + 1) list
    → without_earliest name attributes list ≡ list
unfolding without_earliest
counting-marker name attributes list total seen d s f = counting-end name attributes list total seen d s (rw f refl)

pub counting-all : (name : List ℕ) (attributes : List AttributeOf) (list : List Entry) (total seen d : ℕ) → IsCounting name attributes list total seen d → length list ≤ d
    → without_earliest name attributes list ≡ list
unfolding without_earliest
counting-all name attributes list total seen d s h = counting-end name attributes list total seen d s (rw (drop_all d list h) refl)

-- ---- the earliest entry after the last marker

oldest : (list : List Entry) (k : ℕ) → count_after_marker list ≡ suc k → (k < length list) × (without_oldest list ≡ take k list ++ drop (suc k) list)
unfolding count_after_marker without_oldest
oldest [] k e = absurd (omega (arith, e))
oldest (Marker ∷ list) k e = absurd (omega (arith, e))
oldest (Active n kind name attributes ∷ []) zero e = (omega arith, refl)
oldest (Active n kind name attributes ∷ []) (suc k) e = absurd (omega (arith, e))
oldest (Active n kind name attributes ∷ Marker ∷ list) zero e = (omega arith, refl)
oldest (Active n kind name attributes ∷ Marker ∷ list) (suc k) e = absurd (omega (arith, e))
oldest (Active n kind name attributes ∷ Active m other own others ∷ list) zero e = absurd (omega (arith, e))
oldest (Active n kind name attributes ∷ Active m other own others ∷ list) (suc k) e =
    let r = oldest (Active m other own others ∷ list) k (omega (arith, e)) in
    let w = r.0 in
    (omega (arith, w), ap (λ ys. Active n kind name attributes ∷ ys) r.1)

pub oldest-at : (list : List Entry) (n : ℕ) → n ≡ count_after_marker list → 0 < n → IsOldest list (n - 1)
oldest-at list zero e h = absurd (omega (arith, h))
oldest-at list (suc k) e h =
    let r = oldest list k (sym e) in
    let same : suc k - 1 ≡ k = omega arith in
    subst (λ d. IsOldest list d) (sym same) (record { within = r.0; without = rw (add-one k) r.1 })
