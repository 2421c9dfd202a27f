-- A list in order is the only one that rises and has the same of each key in the same order, as a stable sort makes it.
use Rattle.std.proofs.Common.{◌≡◌, ℕ, zero, suc, ◌<◌, ◌≤◌, Bool, true, false, cond, List, [], ◌∷◌, length, get_or, map, filter, nat_cmp, is_lt, refl, sym, ap, ◌∙◌, subst, arith, inl, inr, suc-le-suc, zero-le}
use Rattle.std.specs.Bool.{nat_le}
use Rattle.std.specs.Prelude.{All}
use Rattle.std.specs.List.Sorted.{IsNonDecreasingBy, IsStableByKey, ties}
use Rattle.std.proofs.lemmas.Bool.{cases_Bool, cond-false, cond-true, leb-false, leb-true}
use Rattle.std.proofs.lemmas.Bool.Decides.{nat_tests}
use Rattle.std.proofs.lemmas.List.Elements.{All-cons, All-head, All-same, All-tail}
use Rattle.html5check.specs.Order.{in_order, put}

ties_at : (m n : ℕ) → (ties (λ x y. is_lt (nat_cmp x y)) m n ≡ true → m ≡ n) × (m ≡ n → ties (λ x y. is_lt (nat_cmp x y)) m n ≡ true)
ties_at m n = (λ h. grind (arith, nat_tests), λ h. grind (arith, nat_tests))

filter-kept : {X : Type 0} (p : X → Bool) (y : X) (ys : List X) → p y ≡ true → filter p (y ∷ ys) ≡ y ∷ filter p ys
filter-kept p y ys h = cond-true _ _ _ h

filter-dropped : {X : Type 0} (p : X → Bool) (y : X) (ys : List X) → p y ≡ false → filter p (y ∷ ys) ≡ filter p ys
filter-dropped p y ys h = cond-false _ _ _ h

-- ---- one put into a list

put-first : {X : Type 0} (n : X → ℕ) (x y : X) (ys : List X) → nat_le (n x) (n y) ≡ true → put n x (y ∷ ys) ≡ x ∷ y ∷ ys
unfolding put
put-first n x y ys is = cond-true _ _ _ is

put-later : {X : Type 0} (n : X → ℕ) (x y : X) (ys : List X) → nat_le (n x) (n y) ≡ false → put n x (y ∷ ys) ≡ y ∷ put n x ys
unfolding put
put-later n x y ys is = cond-false _ _ _ is

put-none : {X : Type 0} (n : X → ℕ) (x : X) → put n x [] ≡ x ∷ []
unfolding put
put-none n x = refl

in_order-cons : {X : Type 0} (n : X → ℕ) (x : X) (xs : List X) → in_order n (x ∷ xs) ≡ put n x (in_order n xs)
unfolding in_order
in_order-cons n x xs = refl

in_order-nil : {X : Type 0} (n : X → ℕ) → in_order n [] ≡ []
unfolding in_order
in_order-nil n = refl

module _ {X : Type 0} (n : X → ℕ) where
  abbrev same_key : X → X → Bool
  same_key = ties (λ x y. is_lt (nat_cmp (n x) (n y)))

  same_key-true : (x y : X) → same_key x y ≡ true → n x ≡ n y
  same_key-true x y = (ties_at (n x) (n y)).0

  same_key-from : (x y : X) → n x ≡ n y → same_key x y ≡ true
  same_key-from x y = (ties_at (n x) (n y)).1

  filter-put : (w x : X) (ys : List X) → filter (same_key w) (put n x ys) ≡ filter (same_key w) (x ∷ ys)
  filter-put w x [] = ap (filter (same_key w)) (put-none n x)
  filter-put w x (y ∷ ys) =
      let p = same_key w in
      elim (cases_Bool (nat_le (n x) (n y))) [
        | inl first ↦ ap (filter p) (put-first n x y ys first)
        | inr later ↦
            let over : n y < n x = leb-false (n x) (n y) later in
            ap (filter p) (put-later n x y ys later)
            ∙ elim (cases_Bool (p y)) [
              | inr without ↦
                  filter-dropped p y (put n x ys) without ∙ filter-put w x ys
                  ∙ ap (λ l. cond (p x) (x ∷ l) l) (sym (filter-dropped p y ys without))
              | inl with ↦
                  elim (cases_Bool (p x)) [
                    | inl both ↦ absurd (omega (arith, same_key-true w x both, same_key-true w y with))
                    | inr only ↦
                        filter-kept p y (put n x ys) with ∙ ap (λ l. y ∷ l) (filter-put w x ys ∙ filter-dropped p x ys only)
                        ∙ sym (filter-dropped p x (y ∷ ys) only ∙ filter-kept p y ys with)
                  ]
            ]
      ]

  filter-in_order : (w : X) (xs : List X) → filter (same_key w) (in_order n xs) ≡ filter (same_key w) xs
  filter-in_order w [] = ap (filter (same_key w)) (in_order-nil n)
  filter-in_order w (x ∷ xs) =
      ap (filter (same_key w)) (in_order-cons n x xs) ∙ filter-put w x (in_order n xs)
      ∙ ap (λ l. cond (same_key w x) (x ∷ l) l) (filter-in_order w xs)

  -- ---- lists that rise

  abbrev AreAtLeast : ℕ → List X → Type 0
  AreAtLeast low [] = Unit {0}
  AreAtLeast low (y ∷ ys) = (low ≤ n y) × AreAtLeast low ys

  abbrev Rises : List X → Type 0
  Rises [] = Unit {0}
  Rises (y ∷ ys) = AreAtLeast (n y) ys × Rises ys

  AreAtLeast-le : (low high : ℕ) (ys : List X) → low ≤ high → AreAtLeast high ys → AreAtLeast low ys
  AreAtLeast-le low high [] le h = tt
  AreAtLeast-le low high (y ∷ ys) le h = let first = h.0 in (omega arith, AreAtLeast-le low high ys le h.1)

  AreAtLeast-at : (low : ℕ) (d : X) (ys : List X) → ((j : ℕ) → j < length ys → low ≤ n (get_or ys j d)) → AreAtLeast low ys
  AreAtLeast-at low d [] h = tt
  AreAtLeast-at low d (y ∷ ys) h = (h zero (suc-le-suc zero-le), AreAtLeast-at low d ys (λ j lt. h (suc j) (suc-le-suc lt)))

  Rises-from_sort : (ys : List X) → IsNonDecreasingBy n ys → Rises ys
  Rises-from_sort [] h = tt
  Rises-from_sort (y ∷ ys) h = (
    AreAtLeast-at (n y) y ys (λ j lt. h zero (suc j) y zero-le (suc-le-suc lt)),
    Rises-from_sort ys (λ i j d le lt. h (suc i) (suc j) d (suc-le-suc le) (suc-le-suc lt)),
  )

  AreAtLeast-put : (low : ℕ) (x : X) (ys : List X) → low ≤ n x → AreAtLeast low ys → AreAtLeast low (put n x ys)
  AreAtLeast-put low x [] le h = subst (AreAtLeast low) (sym (put-none n x)) (le, tt)
  AreAtLeast-put low x (y ∷ ys) le h =
      elim (cases_Bool (nat_le (n x) (n y))) [
        | inl first ↦ subst (AreAtLeast low) (sym (put-first n x y ys first)) (le, h)
        | inr later ↦ subst (AreAtLeast low) (sym (put-later n x y ys later)) (h.0, AreAtLeast-put low x ys le h.1)
      ]

  Rises-put : (x : X) (ys : List X) → Rises ys → Rises (put n x ys)
  Rises-put x [] h = subst Rises (sym (put-none n x)) (tt, tt)
  Rises-put x (y ∷ ys) h =
      elim (cases_Bool (nat_le (n x) (n y))) [
        | inl first ↦
            let le : n x ≤ n y = leb-true (n x) (n y) first in
            subst Rises (sym (put-first n x y ys first)) ((le, AreAtLeast-le (n x) (n y) ys le h.0), h)
        | inr later ↦
            let over : n y < n x = leb-false (n x) (n y) later in
            let le : n y ≤ n x = omega arith in
            subst Rises (sym (put-later n x y ys later)) (AreAtLeast-put (n y) x ys le h.0, Rises-put x ys h.1)
      ]

  Rises-in_order : (xs : List X) → Rises (in_order n xs)
  Rises-in_order [] = subst Rises (sym (in_order-nil n)) tt
  Rises-in_order (x ∷ xs) = subst Rises (sym (in_order-cons n x xs)) (Rises-put x (in_order n xs) (Rises-in_order xs))

  -- the key of x occurs among them
  AreAtLeast-found : (low : ℕ) (x : X) (ys : List X) (w : X) (ws : List X) → AreAtLeast low ys → filter (same_key x) ys ≡ w ∷ ws → low ≤ n x
  AreAtLeast-found low x [] w ws h e = cc
  AreAtLeast-found low x (y ∷ ys) w ws h e =
      elim (cases_Bool (same_key x y)) [
        | inl with ↦ omega (arith, h.0, same_key-true x y with)
        | inr without ↦ AreAtLeast-found low x ys w ws h.1 (sym (filter-dropped (same_key x) y ys without) ∙ e)
      ]

  same_from_keys : (ys zs : List X) → Rises ys → Rises zs → ((x : X) → filter (same_key x) ys ≡ filter (same_key x) zs) → ys ≡ zs
  same_from_keys [] [] left right same = refl
  same_from_keys [] (z ∷ zs) left right same =
      let clash = same z ∙ filter-kept (same_key z) z zs (same_key-from z z refl) in cc
  same_from_keys (y ∷ ys) [] left right same =
      let clash = sym (same y) ∙ filter-kept (same_key y) y ys (same_key-from y y refl) in cc
  same_from_keys (y ∷ ys) (z ∷ zs) left right same =
      let at_y = filter-kept (same_key y) y ys (same_key-from y y refl) in
      let at_z = filter-kept (same_key z) z zs (same_key-from z z refl) in
      let up = AreAtLeast-found (n z) y (z ∷ zs) y _ (omega arith, right.0) (sym (same y) ∙ at_y) in
      let down = AreAtLeast-found (n y) z (y ∷ ys) z _ (omega arith, left.0) (same z ∙ at_z) in
      let heads = sym at_y ∙ same y ∙ filter-kept (same_key y) z zs (same_key-from y z (omega arith)) in
      let head : y ≡ z = cc in
      let tails : (x : X) → filter (same_key x) ys ≡ filter (same_key x) zs =
      λ x. elim (cases_Bool (same_key x y)) [
        | inl with ↦
            let both = sym (filter-kept (same_key x) y ys with) ∙ same x ∙ filter-kept (same_key x) z zs (ap (same_key x) (sym head) ∙ with) in cc
        | inr without ↦
            sym (filter-dropped (same_key x) y ys without) ∙ same x ∙ filter-dropped (same_key x) z zs (ap (same_key x) (sym head) ∙ without)
      ] in
      ap (λ w. w ∷ ys) head ∙ ap (λ l. z ∷ l) (same_from_keys ys zs left.1 right.1 tails)

  pub in_order-from_sort : (xs ys : List X) → IsNonDecreasingBy n ys → IsStableByKey n nat_cmp xs ys → ys ≡ in_order n xs
  in_order-from_sort xs ys sorted stable =
      same_from_keys ys (in_order n xs) (Rises-from_sort ys sorted) (Rises-in_order xs) (λ x. stable x ∙ sym (filter-in_order x xs))

-- ---- as something else, with the same keys

module _ {X Y : Type 0} (n : X → ℕ) (m : Y → ℕ) (f : X → Y) (same : (x : X) → m (f x) ≡ n x) where
  map-put : (x : X) (ys : List X) → map f (put n x ys) ≡ put m (f x) (map f ys)
  map-put x [] = ap (map f) (put-none n x) ∙ sym (put-none m (f x))
  map-put x (y ∷ ys) =
      let key : nat_le (m (f x)) (m (f y)) ≡ nat_le (n x) (n y) = ap (λ k. nat_le k (m (f y))) (same x) ∙ ap (nat_le (n x)) (same y) in
      elim (cases_Bool (nat_le (n x) (n y))) [
        | inl first ↦ ap (map f) (put-first n x y ys first) ∙ sym (put-first m (f x) (f y) (map f ys) (key ∙ first))
        | inr later ↦
            ap (map f) (put-later n x y ys later) ∙ ap (λ l. f y ∷ l) (map-put x ys) ∙ sym (put-later m (f x) (f y) (map f ys) (key ∙ later))
      ]

  pub map-in_order : (xs : List X) → map f (in_order n xs) ≡ in_order m (map f xs)
  map-in_order [] = ap (map f) (in_order-nil n) ∙ sym (in_order-nil m)
  map-in_order (x ∷ xs) =
      ap (map f) (in_order-cons n x xs) ∙ map-put x (in_order n xs) ∙ ap (put m (f x)) (map-in_order xs) ∙ sym (in_order-cons m (f x) (map f xs))

-- ---- what holds of each element

module _ {X : Type 0} (n : X → ℕ) (P : X → Type 0) where
  All-put : (x : X) (ys : List X) → P x → All P ys → All P (put n x ys)
  All-put x [] first h = All-same P _ (x ∷ []) (put-none n x) (All-cons P x [] first h)
  All-put x (y ∷ ys) first h =
      elim (cases_Bool (nat_le (n x) (n y))) [
        | inl before ↦ All-same P _ (x ∷ y ∷ ys) (put-first n x y ys before) (All-cons P x (y ∷ ys) first h)
        | inr later ↦
            All-same P _ (y ∷ put n x ys) (put-later n x y ys later)
            (All-cons P y (put n x ys) (All-head P y ys h) (All-put x ys first (All-tail P y ys h)))
      ]

  pub All-in_order : (xs : List X) → All P xs → All P (in_order n xs)
  All-in_order [] h = All-same P _ [] (in_order-nil n) h
  All-in_order (x ∷ xs) h =
      All-same P _ (put n x (in_order n xs)) (in_order-cons n x xs)
      (All-put x (in_order n xs) (All-head P x xs h) (All-in_order xs (All-tail P x xs h)))
