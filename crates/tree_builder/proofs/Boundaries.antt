-- A text may be cut where a run of characters of one class ends.
use Rattle.std.specs.Prelude.{ℕ, zero, suc, true, false, List, [], ◌∷◌, ◌<◌, ◌≤◌, ◌+◌, ◌-◌, ◌==◌, length, take, drop, get_or}
use Rattle.std.specs.Str.{IsCharBoundary, IsUtf8}
use Rattle.std.proofs.Common.{◌≡◌, ◌≢◌, refl, arith, inl, inr, subst, sym, take_all, ne_eqb, eq-eqb, eqb-true, ◌∙◌}
use Rattle.std.proofs.lemmas.Bool.{and_right, cases_lt}
use Rattle.std.proofs.lemmas.List.{get_or-take, length-take-le}
use Rattle.std.proofs.lemmas.List.Elements.{All-get_or, All-head, All-more, All-tail}
use Rattle.std.proofs.lemmas.Str.{IsCharBoundary-after_ascii, IsCharBoundary-before_ascii, IsCharBoundary-end}
use Rattle.tree_construction.specs.Tokens.{is_space}
use Rattle.tree_construction.specs.Tables.{is_all_space}
use Rattle.tree_builder.specs.Characters.{AllOf, BeginsOther, IsOf}
use Rattle.tree_builder.specs.declared.characters.TextClass.{TextClass}
use Rattle.tree_builder.specs.declared.characters.TextClass.TheVariants.{Null, Space, Other}

space-narrow : (c : ℕ) → is_space c ≡ true → c < 128
space-narrow c is =
    elim (cases_lt c 128) [
      | inl less ↦ less
      | inr wide ↦
          let a : (c == 32) ≡ false = ne_eqb c 32 (λ e. omega (arith, e, wide)) in
          let b : (c == 9) ≡ false = ne_eqb c 9 (λ e. omega (arith, e, wide)) in
          let d : (c == 10) ≡ false = ne_eqb c 10 (λ e. omega (arith, e, wide)) in
          let f : (c == 12) ≡ false = ne_eqb c 12 (λ e. omega (arith, e, wide)) in
          let g : (c == 13) ≡ false = ne_eqb c 13 (λ e. omega (arith, e, wide)) in
          let never : is_space c ≡ false = rw (a, b, d, f, g) refl in
          cc
    ]

-- the characters of two classes are bytes of ASCII
narrow : (class : TextClass) (c : ℕ) → IsOf class c → class ≢ Other → c < 128
narrow Null c is differs = omega (arith, eqb-true c 0 is.null)
narrow Space c is differs = space-narrow c is.space
narrow Other c is differs = absurd (differs refl)

ends-before : (bs : List ℕ) (n : ℕ) → n < length bs → (other : TextClass) × ((IsOf other (get_or bs n 0)) × (other ≢ Other)) → IsCharBoundary bs n
ends-before bs n less ends = IsCharBoundary-before_ascii bs n less (narrow ends.0 (get_or bs n 0) ends.1.0 ends.1.1)

ends-after : (class : TextClass) (bs : List ℕ) (n : ℕ) → class ≢ Other → IsUtf8 bs → 0 < n → n < length bs → AllOf class (take n bs)
    → IsCharBoundary bs n
ends-after class bs n differs utf8 some less all =
    let k : ℕ = n - 1 in
    let size : length (take n bs) ≡ n = length-take-le n bs (omega (arith, less)) in
    let last : IsOf class (get_or (take n bs) k 0) = All-get_or (IsOf class) (take n bs) k 0 (omega (arith, some, size)) all in
    let narrow_last : get_or bs k 0 < 128 = narrow class (get_or bs k 0) (rw (get_or-take n bs k 0 (omega (arith, some))) at last) differs in
    let next : k + 1 ≡ n = omega (arith, some) in
    subst (IsCharBoundary bs) next (IsCharBoundary-after_ascii bs k utf8 (omega (arith, some, less)) narrow_last)

pub run-boundary : (class : TextClass) (bs : List ℕ) (n : ℕ) → IsUtf8 bs → 0 < n → n ≤ length bs → AllOf class (take n bs)
    → (n < length bs → (other : TextClass) × ((IsOf other (get_or bs n 0)) × (other ≢ class))) → IsCharBoundary bs n
run-boundary class bs n utf8 some within all ends =
    elim (cases_lt n (length bs)) [
      | inl less ↦ by class all (ends less) less
      | inr whole ↦ let same : n ≡ length bs = omega (arith, within, whole) in rw same (IsCharBoundary-end bs)
    ]
  where
    by : (k : TextClass) → AllOf k (take n bs) → (other : TextClass) × ((IsOf other (get_or bs n 0)) × (other ≢ k)) → n < length bs
        → IsCharBoundary bs n
    by Other all ends less = ends-before bs n less ends
    by Null all ends less = ends-after Null bs n (λ e. cc) utf8 some less all
    by Space all ends less = ends-after Space bs n (λ e. cc) utf8 some less all

pub all_more : (class : TextClass) (bs : List ℕ) (i : ℕ) → i < length bs → AllOf class (take i bs) → IsOf class (get_or bs i 0)
    → AllOf class (take (i + 1) bs)
all_more class bs i less all is = All-more (IsOf class) bs i 0 less all is

-- a byte has one class
absurd-classes : {X : Type 0} → true ≡ false → X
absurd-classes e = cc

one-class : (k j : TextClass) (c : ℕ) → IsOf k c → IsOf j c → k ≡ j
one-class Null Null c a b = refl
one-class Space Space c a b = refl
one-class Other Other c a b = refl
one-class Null Space c a b = absurd-classes (sym a.null ∙ b.null)
one-class Null Other c a b = absurd-classes (sym a.null ∙ b.null)
one-class Space Null c a b = absurd-classes (sym b.null ∙ a.null)
one-class Other Null c a b = absurd-classes (sym b.null ∙ a.null)
one-class Space Other c a b = absurd-classes (sym a.space ∙ b.space)
one-class Other Space c a b = absurd-classes (sym b.space ∙ a.space)

pub some-bytes : (n : ℕ) → (n == 0) ≡ false → 0 < n
some-bytes zero e = cc
some-bytes (suc n) e = omega arith

-- the run with which a text begins has a byte
pub run-some : (class : TextClass) (bs : List ℕ) (n : ℕ) → 0 < length bs → IsOf class (get_or bs 0 0)
    → (n < length bs → (other : TextClass) × ((IsOf other (get_or bs n 0)) × (other ≢ class))) → 0 < n
run-some class bs zero some is ends =
    let e = ends some in
    absurd (e.1.1 (one-class e.0 class (get_or bs 0 0) e.1.0 is))
run-some class bs (suc n) some is ends = omega arith

-- what follows it
pub begins-other : (class : TextClass) (bs : List ℕ) (n : ℕ)
    → (n < length bs → (other : TextClass) × ((IsOf other (get_or bs n 0)) × (other ≢ class))) → BeginsOther class (drop n bs)
begins-other class [] zero ends c more e = cc
begins-other class [] (suc n) ends c more e = cc
begins-other class (b ∷ bs) zero ends c more e =
    let same : b ≡ c = cc in
    subst (λ x. (other : TextClass) × ((IsOf other x) × (other ≢ class))) same (ends (omega arith))
begins-other class (b ∷ bs) (suc n) ends c more e = begins-other class bs n (λ less. ends (omega (arith, less))) c more e

-- ---- white space alone

all-spaces : (text : List ℕ) → AllOf Space text → is_all_space text ≡ true
unfolding is_all_space
all-spaces [] all = refl
all-spaces (c ∷ text) all =
    let is : IsOf Space c = All-head (IsOf Space) c text all in
    rw (is.space) (all-spaces text (All-tail (IsOf Space) c text all))

no-space : (k : TextClass) (c : ℕ) → IsOf k c → k ≢ Space → is_space c ≡ false
no-space Null c is differs = is.space
no-space Space c is differs = absurd (differs refl)
no-space Other c is differs = is.space

other-spaces : (text : List ℕ) (n : ℕ) → n < length text → is_space (get_or text n 0) ≡ false → is_all_space text ≡ false
unfolding is_all_space
other-spaces [] n less other = absurd (omega (arith, less))
other-spaces (c ∷ text) zero less other = rw other refl
other-spaces (c ∷ text) (suc n) less other =
    and_right (is_space c) (is_all_space text) (other-spaces text n (omega (arith, less)) other)

pub spaces_counted : (text : List ℕ) (n : ℕ) → n ≤ length text → AllOf Space (take n text)
    → (n < length text → (other : TextClass) × ((IsOf other (get_or text n 0)) × (other ≢ Space))) → is_all_space text ≡ (n == length text)
spaces_counted text n within all ends =
    elim (cases_lt n (length text)) [
      | inl less ↦
          let e = ends less in
          other-spaces text n less (no-space e.0 (get_or text n 0) e.1.0 e.1.1) ∙ sym (ne_eqb n (length text) (λ same. omega (arith, same, less)))
      | inr whole ↦
          let same : n ≡ length text = omega (arith, within, whole) in
          all-spaces text (subst (AllOf Space) (take_all n text whole) all) ∙ sym (eq-eqb n (length text) same)
    ]
