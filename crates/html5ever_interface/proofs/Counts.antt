-- Elements counted by a test that decides equality. Lists as long, with each element as often, are permutations.
use Rattle.std.proofs.Common.{◌≡◌, ℕ, ◌+◌, ◌<◌, ◌≤◌, Bool, true, false, cond, List, [], ◌∷◌, ◌++◌, length, count_by, All, IsPermutation, refl, sym, ap, subst, ◌∙◌, arith, length-append}
use Rattle.std.specs.Bool.{Decides}
use Rattle.std.proofs.lemmas.List.{nil_from_length, append-nil}
use Rattle.std.proofs.lemmas.List.Elements.{All-head, All-tail, All-weaker}
use Rattle.std.proofs.lemmas.List.Sorted.{IsPermutation-refl, IsPermutation-sym, IsPermutation-trans, IsPermutation-cons, IsPermutation-middle, length_permutation, sum_by-IsPermutation}
use Rattle.std.proofs.lemmas.List.Sums.{sum_by-cons}

-- how many are equal to x by the test
abbrev pub count_equal : {X : Type 0} → (X → X → Bool) → List X → X → ℕ
count_equal test xs x = count_by (λ y. test y x) xs

-- an element's place in a list
record Occurs {X : Type 0} (x : X) (xs : List X) : Type 0 where
  pub front : List X
  pub back : List X
  pub parts : xs ≡ front ++ x ∷ back

-- what is left of `whole` without `part`
record Exceeds {X : Type 0} (part whole : List X) : Type 0 where
  pub rest : List X
  pub is : IsPermutation whole (part ++ rest)

module _ {X : Type 0} (test : X → X → Bool) (decides : (x y : X) → Decides (test x y) (x ≡ y)) where
  -- one more element
  count_equal-cons : (x y : X) (ys : List X) → count_equal test (y ∷ ys) x ≡ cond (test y x) 1 0 + count_equal test ys x
  count_equal-cons x y ys = sum_by-cons (λ z. cond (test z x) 1 0) y ys

  count_equal-same : (x : X) (ys : List X) → count_equal test (x ∷ ys) x ≡ 1 + count_equal test ys x
  count_equal-same x ys = count_equal-cons x x ys ∙ ap (λ b. cond b 1 0 + count_equal test ys x) ((decides x x).1 refl)

  -- a permutation has each element as often
  pub count_equal-permutation : (xs ys : List X) (x : X) → IsPermutation xs ys → count_equal test xs x ≡ count_equal test ys x
  count_equal-permutation xs ys x permuted = sym (sum_by-IsPermutation (λ y. cond (test y x) 1 0) xs ys permuted)

  -- what is counted has a place
  occurs-cons : (x y : X) (ys : List X) (here : Bool) → test y x ≡ here → (0 < count_equal test ys x → Occurs x ys)
      → 0 < count_equal test (y ∷ ys) x → Occurs x (y ∷ ys)
  occurs-cons x y ys true here later some =
      record { front = []; back = ys; parts = ap (λ z. z ∷ ys) ((decides y x).0 here) }
  occurs-cons x y ys false here later some =
      let counted : 0 < cond false 1 0 + count_equal test ys x =
      subst (λ b. 0 < cond b 1 0 + count_equal test ys x) here (subst (λ n. 0 < n) (count_equal-cons x y ys) some) in
      let afterwards : Occurs x ys = later (omega arith) in
      record { front = y ∷ afterwards.front; back = afterwards.back; parts = ap (λ zs. y ∷ zs) afterwards.parts }

  occurs : (x : X) (xs : List X) → 0 < count_equal test xs x → Occurs x xs
  occurs x [] some = absurd (omega arith)
  occurs x (y ∷ ys) some = occurs-cons x y ys (test y x) refl (λ later. occurs x ys later) some

  -- `whole` has it as often as `part`, or more often
  abbrev IsCovered : List X → List X → X → Type 0
  IsCovered part whole x = count_equal test part x ≤ count_equal test whole x

  -- without an element that both have
  covered_without : (part whole others : List X) (x : X) → IsPermutation whole (x ∷ others)
      → All (IsCovered (x ∷ part) whole) part → All (IsCovered part others) part
  covered_without part whole others x moved covered =
      All-weaker (IsCovered (x ∷ part) whole) (IsCovered part others)
      (λ y within. omega (arith, count_equal-cons y x part, count_equal-cons y x others, count_equal-permutation whole (x ∷ others) y moved))
      part covered

  -- a list that has each element of a part at least as often is the part and a rest
  exceeds : (part whole : List X) → All (IsCovered part whole) part → Exceeds part whole
  exceeds [] whole covered = record { rest = whole; is = IsPermutation-refl whole }
  exceeds (x ∷ part) whole covered =
      let within : IsCovered (x ∷ part) whole x = All-head (IsCovered (x ∷ part) whole) x part covered in
      let place : Occurs x whole = occurs x whole (omega (arith, count_equal-same x part)) in
      let others : List X = place.front ++ place.back in
      let moved : IsPermutation whole (x ∷ others) =
      subst (λ zs. IsPermutation zs (x ∷ others)) (sym place.parts) (IsPermutation-middle place.front x place.back) in
      let later : Exceeds part others = exceeds part others
      (covered_without part whole others x moved (All-tail (IsCovered (x ∷ part) whole) x part covered)) in
      record {
        rest = later.rest;
        is = IsPermutation-trans whole (x ∷ others) (x ∷ (part ++ later.rest)) moved (IsPermutation-cons x others (part ++ later.rest) later.is);
      }

  -- each element as often, where both lists are as long
  pub permutation_from_counts : (xs ys : List X) → length xs ≡ length ys
      → All (λ x. count_equal test xs x ≡ count_equal test ys x) xs → IsPermutation xs ys
  permutation_from_counts xs ys long counted =
      let more : Exceeds xs ys = exceeds xs ys (All-weaker (λ x. count_equal test xs x ≡ count_equal test ys x)
      (IsCovered xs ys) (λ x same. omega arith) xs counted) in
      let none : length more.rest ≡ 0 = omega (arith, length_permutation ys (xs ++ more.rest) more.is, length-append xs more.rest) in
      IsPermutation-sym ys xs (subst (λ zs. IsPermutation ys zs) (ap (λ zs. xs ++ zs) (nil_from_length more.rest none) ∙ append-nil xs) more.is)
