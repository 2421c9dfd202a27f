-- The order of names, byte after byte, and where an attribute is put among those that are in order.
use Rattle.std.proofs.Common.{◌≡◌, ℕ, zero, suc, ◌+◌, ◌<◌, ◌≤◌, min, true, false, List, [], ◌∷◌, ◌++◌, length, take, drop, get_or, map, refl, sym, ap, ◌∙◌, arith, append_assoc}
use Rattle.std.specs.Prelude.{insert, ltb, ◌==◌}
use Rattle.std.proofs.lemmas.Bool.{eq-eqb}
use Rattle.std.proofs.lemmas.Bool.Decides.{nat_tests}
use Rattle.std.proofs.lemmas.List.{drop-map, drop_all, drop_more}
use Rattle.markup5ever.specs.Names.{AttributeOf}
use Rattle.tree_lines.specs.Lines.{comes_before, in_order_with, put_in_order, shown_name}

-- ---- two names, byte after byte

-- a byte that is the same in both decides nothing
pub before-past_same : (a b : List ℕ) (i : ℕ) → i < length a → i < length b → get_or a i 0 ≡ get_or b i 0 → comes_before (drop i a) (drop i b) ≡ comes_before (drop (suc i) a) (drop (suc i) b)
unfolding comes_before
before-past_same [] b i in_a in_b same = absurd (omega (arith, in_a))
before-past_same (x ∷ a) [] i in_a in_b same = absurd (omega (arith, in_b))
before-past_same (x ∷ a) (y ∷ b) zero in_a in_b same =
    let e : (x == y) ≡ true = eq-eqb x y same in
    rw e refl
before-past_same (x ∷ a) (y ∷ b) (suc i) in_a in_b same = before-past_same a b i (omega (arith, in_a)) (omega (arith, in_b)) same

-- the first that differs decides
pub before-differs : (a b : List ℕ) (i : ℕ) → i < length a → i < length b → ¬ (get_or a i 0 ≡ get_or b i 0) → comes_before (drop i a) (drop i b) ≡ ltb (get_or a i 0) (get_or b i 0)
unfolding comes_before
before-differs [] b i in_a in_b other = absurd (omega (arith, in_a))
before-differs (x ∷ a) [] i in_a in_b other = absurd (omega (arith, in_b))
before-differs (x ∷ a) (y ∷ b) zero in_a in_b other =
    let e : (x == y) ≡ false = grind (arith, nat_tests, other) in
    rw e refl
before-differs (x ∷ a) (y ∷ b) (suc i) in_a in_b other = before-differs a b i (omega (arith, in_a)) (omega (arith, in_b)) other

-- and where one ends, the lengths do
pub before-past_end : (a b : List ℕ) (i : ℕ) → i ≤ length a → i ≤ length b → min (length a) (length b) ≤ i → comes_before (drop i a) (drop i b) ≡ ltb (length a) (length b)
unfolding comes_before
before-past_end [] [] zero in_a in_b ended = refl
before-past_end [] (y ∷ b) zero in_a in_b ended = grind (arith, nat_tests)
before-past_end (x ∷ a) [] zero in_a in_b ended = grind (arith, nat_tests)
before-past_end (x ∷ a) (y ∷ b) zero in_a in_b ended = absurd (omega (arith, ended))
before-past_end [] b (suc i) in_a in_b ended = absurd (omega (arith, in_a))
before-past_end (x ∷ a) [] (suc i) in_a in_b ended = absurd (omega (arith, in_b))
before-past_end (x ∷ a) (y ∷ b) (suc i) in_a in_b ended =
    before-past_end a b i (omega (arith, in_a)) (omega (arith, in_b)) (omega (arith, ended)) ∙ same_past (length a) (length b)
  where
    same_past : (m n : ℕ) → ltb m n ≡ ltb (suc m) (suc n)
    same_past m n = grind (arith, nat_tests)

-- ---- attributes in order

module _ {R : Type 0} (f : R → AttributeOf) (a : AttributeOf) where
  -- those before an index come before an attribute
  abbrev pub IsPast : List R → ℕ → Type 0
  IsPast xs i = put_in_order a (map f xs) ≡ take i (map f xs) ++ put_in_order a (drop i (map f xs))

  past-here : (xs : List R) (i : ℕ) (x : R) → i < length xs → x ≡ get_or xs i x → comes_before (shown_name a) (shown_name (f x)) ≡ false
      → put_in_order a (drop i (map f xs)) ≡ f x ∷ put_in_order a (drop (suc i) (map f xs))
  unfolding put_in_order
  past-here [] i x within is later = absurd (omega (arith, within))
  past-here (y ∷ xs) zero x within is later =
      let e : x ≡ y = is in
      let here : comes_before (shown_name a) (shown_name (f y)) ≡ false = ap (λ z. comes_before (shown_name a) (shown_name (f z))) (sym e) ∙ later in
      rw here (ap (λ z. f z ∷ put_in_order a (map f xs)) (sym e))
  past-here (y ∷ xs) (suc i) x within is later = past-here xs i x (omega (arith, within)) is later

  taken : (xs : List R) (i : ℕ) (x : R) → i < length xs → x ≡ get_or xs i x → take (suc i) (map f xs) ≡ take i (map f xs) ++ f x ∷ []
  taken [] i x within is = absurd (omega (arith, within))
  taken (y ∷ xs) zero x within is =
      let e : x ≡ y = is in
      ap (λ z. f z ∷ []) (sym e)
  taken (y ∷ xs) (suc i) x within is = ap (λ l. f y ∷ l) (taken xs i x (omega (arith, within)) is)

  pub past-more : (xs : List R) (i : ℕ) (x : R) → i < length xs → x ≡ get_or xs i x → comes_before (shown_name a) (shown_name (f x)) ≡ false → IsPast xs i → IsPast xs (suc i)
  past-more xs i x within is later past =
      let rest = put_in_order a (drop (suc i) (map f xs)) in
      past ∙ (ap (λ l. take i (map f xs) ++ l) (past-here xs i x within is later)
      ∙ (sym (append_assoc (take i (map f xs)) (f x ∷ []) rest) ∙ ap (λ l. l ++ rest) (sym (taken xs i x within is))))

  before-here : (xs : List R) (i : ℕ) (x : R) → i < length xs → x ≡ get_or xs i x → comes_before (shown_name a) (shown_name (f x)) ≡ true
      → put_in_order a (drop i (map f xs)) ≡ a ∷ drop i (map f xs)
  unfolding put_in_order
  before-here [] i x within is first = absurd (omega (arith, within))
  before-here (y ∷ xs) zero x within is first =
      let e : x ≡ y = is in
      let here : comes_before (shown_name a) (shown_name (f y)) ≡ true = ap (λ z. comes_before (shown_name a) (shown_name (f z))) (sym e) ∙ first in
      rw here refl
  before-here (y ∷ xs) (suc i) x within is first = before-here xs i x (omega (arith, within)) is first

  pub put-here : (xs : List R) (i : ℕ) (x : R) → i < length xs → x ≡ get_or xs i x → comes_before (shown_name a) (shown_name (f x)) ≡ true → IsPast xs i
      → put_in_order a (map f xs) ≡ insert (map f xs) i a
  put-here xs i x within is first past = past ∙ ap (λ l. take i (map f xs) ++ l) (before-here xs i x within is first)

  put-none : put_in_order a [] ≡ a ∷ []
  unfolding put_in_order
  put-none = refl

  pub put-last : (xs : List R) (i : ℕ) → i ≡ length xs → IsPast xs i → put_in_order a (map f xs) ≡ insert (map f xs) (length xs) a
  put-last xs i e past =
      let none : drop i (map f xs) ≡ [] = drop-map f i xs ∙ ap (map f) (drop_all i xs (omega (arith, e))) in
      past ∙ (ap (λ l. take i (map f xs) ++ l) (ap (put_in_order a) none ∙ (put-none ∙ ap (λ l. a ∷ l) (sym none))) ∙ ap (λ n. insert (map f xs) n a) e)

-- ---- an attribute is put at an index

mapped_insert : {R S : Type 0} (f : R → S) (xs : List R) (i : ℕ) (x : R) → map f (insert xs i x) ≡ insert (map f xs) i (f x)
mapped_insert f xs zero x = refl
mapped_insert f [] (suc i) x = refl
mapped_insert f (y ∷ xs) (suc i) x = ap (λ l. f y ∷ l) (mapped_insert f xs i x)

pub inserted : {R : Type 0} (f : R → AttributeOf) (before after seen : List R) (i : ℕ) (x : R) (a : AttributeOf) → after ≡ insert before i x → f x ≡ a → seen ≡ before
    → put_in_order a (map f seen) ≡ insert (map f seen) i a → map f after ≡ put_in_order a (map f before)
inserted f before after seen i x a e is same put =
    ap (map f) e ∙ (mapped_insert f before i x ∙ (ap (insert (map f before) i) is
    ∙ sym (ap (λ l. put_in_order a (map f l)) (sym same) ∙ (put ∙ ap (λ l. insert (map f l) i a) same))))

ordered-more : (ordered : List AttributeOf) (a : AttributeOf) (rest : List AttributeOf) → in_order_with ordered (a ∷ rest) ≡ in_order_with (put_in_order a ordered) rest
unfolding in_order_with
ordered-more ordered a rest = refl

ordered-all : (ordered : List AttributeOf) → in_order_with ordered [] ≡ ordered
unfolding in_order_with
ordered-all ordered = refl

pub in_order-next : {R : Type 0} (f : R → AttributeOf) (xs : List R) (i : ℕ) (x : R) (ordered new : List AttributeOf) → i < length xs → x ≡ get_or xs i x → new ≡ put_in_order (f x) ordered
    → in_order_with ordered (map f (drop i xs)) ≡ in_order_with new (map f (drop (i + 1) xs))
in_order-next f xs i x ordered new within is e =
    let rest = map f (drop (i + 1) xs) in
    ap (λ l. in_order_with ordered (map f l)) (drop_more xs i x within)
    ∙ (ordered-more ordered (f (get_or xs i x)) rest ∙ ap (λ o. in_order_with o rest) (ap (λ y. put_in_order (f y) ordered) (sym is) ∙ sym e))

pub in_order-all : {R : Type 0} (f : R → AttributeOf) (xs : List R) (i : ℕ) (ordered : List AttributeOf) → length xs ≤ i → in_order_with ordered (map f (drop i xs)) ≡ ordered
in_order-all f xs i ordered past = ap (λ l. in_order_with ordered (map f l)) (drop_all i xs past) ∙ ordered-all ordered
