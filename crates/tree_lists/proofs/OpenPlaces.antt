-- A search by node finds where it stands among the open elements.
use Rattle.std.proofs.Common.{◌≡◌, ℕ, zero, suc, ◌+◌, ◌<◌, Bool, true, false, List, [], ◌∷◌, ◌++◌, Option, Some, None, length, take, drop, refl, ap, sym, ◌∙◌, arith, add-one}
use Rattle.std.proofs.lemmas.List.{drop_all}
use Rattle.std.specs.Prelude.{◌==◌, if◌then◌else◌}
use Rattle.tree_construction.specs.Adoption.{deeper, furthest_block, opened_inside, opened_outside}
use Rattle.tree_construction.specs.Names.{is_body, is_special}
use Rattle.tree_construction.specs.Page.{Open, first_open, has_number, has_open, second_body, without_open}
use Rattle.tree_lists.specs.Opened.{later_depth}
use Rattle.tree_lists.specs.Places.{IsNotOpen, IsOpenAt}

pub if-false : (b c : Bool) → (if b then true else c) ≡ false → (b ≡ false) × (c ≡ false)
if-false true c e = cc
if-false false c e = (refl, e)

-- ---- open elements

record OpenAt (n : ℕ) (opened : List Open) (d : ℕ) : Type 0 where
  within : d < length opened
  has : has_open (has_number n) opened ≡ true
  inside : opened_inside n opened ≡ take d opened
  outside : opened_outside n opened ≡ drop (suc d) opened
  without : without_open n opened ≡ take d opened ++ drop (suc d) opened

open-at : (n : ℕ) (list : List Open) (d : ℕ) (e : Open) (rest : List Open) → has_open (has_number n) (take d list) ≡ false → drop d list ≡ e ∷ rest
    → (e.node == n) ≡ true → OpenAt n list d
unfolding has_open opened_inside opened_outside without_open
open-at n [] zero e rest h f t = cc
open-at n [] (suc d) e rest h f t = cc
open-at n (x ∷ list) zero e rest h f t =
    let same : x ≡ e = cc in
    let test : (x.node == n) ≡ true = ap (λ y. y.node == n) same ∙ t in
    record { within = omega arith; has = rw test refl; inside = rw test refl; outside = rw test refl; without = rw test refl }
open-at n (x ∷ list) (suc d) e rest h f t =
    let s = if-false (x.node == n) (has_open (has_number n) (take d list)) h in
    let r = open-at n list d e rest s.1 f t in
    let w = r.within in
    record {
      within = omega arith;
      has = rw s.0 r.has;
      inside = rw s.0 (ap (λ ys. x ∷ ys) r.inside);
      outside = rw s.0 r.outside;
      without = rw s.0 (ap (λ ys. x ∷ ys) r.without);
    }

pub stands-open : (n : ℕ) (list : List Open) (d : ℕ) (e : Open) (rest : List Open) → has_open (has_number n) (take d list) ≡ false → drop d list ≡ e ∷ rest
    → (e.node == n) ≡ true → IsOpenAt n list d
stands-open n list d e rest h f t =
    let r = open-at n list d e rest h f t in
    record { within = r.within; has = r.has; inside = r.inside; outside = rw (add-one d) r.outside; without = rw (add-one d) r.without }

-- one more that is passed
passed-suc : (n : ℕ) (list : List Open) (d : ℕ) (e : Open) (rest : List Open) → has_open (has_number n) (take d list) ≡ false → drop d list ≡ e ∷ rest
    → (e.node == n) ≡ false → has_open (has_number n) (take (suc d) list) ≡ false
unfolding has_open
passed-suc n [] zero e rest h f t = refl
passed-suc n [] (suc d) e rest h f t = refl
passed-suc n (x ∷ list) zero e rest h f t =
    let same : x ≡ e = cc in
    let test : (x.node == n) ≡ false = ap (λ y. y.node == n) same ∙ t in
    rw test refl
passed-suc n (x ∷ list) (suc d) e rest h f t =
    let s = if-false (x.node == n) (has_open (has_number n) (take d list)) h in
    rw s.0 (passed-suc n list d e rest s.1 f t)

pub passed-open : (n : ℕ) (list : List Open) (d : ℕ) (e : Open) (rest : List Open) → has_open (has_number n) (take d list) ≡ false → drop d list ≡ e ∷ rest
    → (e.node == n) ≡ false → has_open (has_number n) (take (d + 1) list) ≡ false
passed-open n list d e rest h f t = rw (add-one d) (passed-suc n list d e rest h f t)

pub none-open : (n : ℕ) (list : List Open) → has_open (has_number n) list ≡ false → IsNotOpen n list
unfolding has_open opened_inside opened_outside without_open
none-open n [] h = record { has = refl; inside = refl; outside = refl; without = refl }
none-open n (x ∷ list) h =
    let s = if-false (x.node == n) (has_open (has_number n) list) h in
    let r = none-open n list s.1 in
    record { has = h; inside = rw s.0 (ap (λ ys. x ∷ ys) r.inside); outside = rw s.0 r.outside; without = rw s.0 (ap (λ ys. x ∷ ys) r.without) }

-- ---- the furthest block

pub drop-twice : {Y : Type 0} (n m : ℕ) (xs : List Y) → drop m (drop n xs) ≡ drop (n + m) xs
drop-twice zero m xs = ap (λ k. drop k xs) (omega arith)
drop-twice (suc n) m [] = drop_all m [] (omega arith) ∙ sym (drop_all (suc n + m) [] (omega arith))
drop-twice (suc n) m (x ∷ xs) =
    let e : suc n + m ≡ suc (n + m) = omega arith in
    drop-twice n m xs ∙ sym (ap (λ k. drop k (x ∷ xs)) e)

later-special : (d : ℕ) (r b : Option ℕ) → later_depth (d + 1) r (Some d) ≡ later_depth d (deeper true r) b
later-special d None b = ap Some (omega arith)
later-special d (Some k) b = ap Some (omega arith)

later-other : (d : ℕ) (r b : Option ℕ) → later_depth (d + 1) r b ≡ later_depth d (deeper false r) b
later-other d None b = refl
later-other d (Some k) b = ap Some (omega arith)

pub block-special : (n : ℕ) (opened : List Open) (d : ℕ) (e : Open) (b : Option ℕ) → drop d opened ≡ e ∷ drop (d + 1) opened → (e.node == n) ≡ false
    → is_special e.kind ≡ true
    → later_depth (d + 1) (furthest_block (opened_inside n (drop (d + 1) opened))) (Some d) ≡ later_depth d (furthest_block (opened_inside n (drop d opened))) b
unfolding opened_inside furthest_block
block-special n opened d e b f t s =
    let r : furthest_block (opened_inside n (drop d opened)) ≡ deeper true (furthest_block (opened_inside n (drop (d + 1) opened))) =
    ap (λ ys. furthest_block (opened_inside n ys)) f ∙ rw t (ap (λ v. deeper v (furthest_block (opened_inside n (drop (d + 1) opened)))) s) in
    later-special d (furthest_block (opened_inside n (drop (d + 1) opened))) b ∙ ap (λ v. later_depth d v b) (sym r)

pub block-other : (n : ℕ) (opened : List Open) (d : ℕ) (e : Open) (b : Option ℕ) → drop d opened ≡ e ∷ drop (d + 1) opened → (e.node == n) ≡ false
    → is_special e.kind ≡ false
    → later_depth (d + 1) (furthest_block (opened_inside n (drop (d + 1) opened))) b ≡ later_depth d (furthest_block (opened_inside n (drop d opened))) b
unfolding opened_inside furthest_block
block-other n opened d e b f t s =
    let r : furthest_block (opened_inside n (drop d opened)) ≡ deeper false (furthest_block (opened_inside n (drop (d + 1) opened))) =
    ap (λ ys. furthest_block (opened_inside n ys)) f ∙ rw t (ap (λ v. deeper v (furthest_block (opened_inside n (drop (d + 1) opened)))) s) in
    later-other d (furthest_block (opened_inside n (drop (d + 1) opened))) b ∙ ap (λ v. later_depth d v b) (sym r)

-- ---- the elements that were opened first

pub first-at : (list : List Open) (d : ℕ) (e : Open) (rest : List Open) → drop d list ≡ e ∷ rest → length list ≡ d + 1 → first_open list ≡ e.node
unfolding first_open
first-at [] d e rest f l = absurd (omega (arith, l))
first-at (x ∷ []) zero e rest f l = let same : x ≡ e = cc in ap (λ y. y.node) same
first-at (x ∷ []) (suc d) e rest f l = absurd (omega (arith, l))
first-at (x ∷ y ∷ list) zero e rest f l = absurd (omega (arith, l))
first-at (x ∷ y ∷ list) (suc d) e rest f l = first-at (y ∷ list) d e rest f (omega (arith, l))

abbrev body_of : Open → Option ℕ
body_of e = if is_body e.kind then Some e.node else None

pub second-at : (list : List Open) (d : ℕ) (e : Open) (rest : List Open) → drop d list ≡ e ∷ rest → length list ≡ d + 2
    → second_body list ≡ (if is_body e.kind then Some e.node else None)
unfolding second_body
second-at [] d e rest f l = absurd (omega (arith, l))
second-at (x ∷ []) d e rest f l = absurd (omega (arith, l))
second-at (x ∷ y ∷ []) zero e rest f l = let same : x ≡ e = cc in ap body_of same
second-at (x ∷ y ∷ []) (suc d) e rest f l = absurd (omega (arith, l))
second-at (x ∷ y ∷ z ∷ list) zero e rest f l = absurd (omega (arith, l))
second-at (x ∷ y ∷ z ∷ list) (suc d) e rest f l = second-at (y ∷ z ∷ list) d e rest f (omega (arith, l))

pub second-none : (list : List Open) → length list < 2 → second_body list ≡ None
unfolding second_body
second-none [] l = refl
second-none (x ∷ []) l = refl
second-none (x ∷ y ∷ list) l = absurd (omega (arith, l))
