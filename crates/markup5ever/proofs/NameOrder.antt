-- The order of names, and names that begin with a text.
use Rattle.std.proofs.Common.{◌≡◌, ℕ, zero, suc, ◌+◌, ◌-◌, ◌<◌, ◌≤◌, min, ◌⊎◌, inl, inr, true, false, List, [], ◌∷◌, ◌++◌, length, take, drop, get_or, refl, sym, ap, ◌∙◌, arith}
use Rattle.std.specs.Bool.{nat_eq}
use Rattle.std.specs.Cmp.Lexicographic.{slice_cmp}
use Rattle.std.specs.List.{starts_with}
use Rattle.std.specs.Ordering.{nat_cmp, is_lt, is_eq, ordering_index, ordering_reverse, ordering_then}
use Rattle.std.specs.Str.{bytes_eq}
use Rattle.std.specs.declared.cmp.Ordering.{Ordering}
use Rattle.std.specs.declared.cmp.Ordering.TheVariants.{Less, Equal, Greater}
use Rattle.std.proofs.lemmas.Bool.{and_parts, and_from, eqb-true, eq-eqb}
use Rattle.std.proofs.lemmas.Bool.Decides.{nat_tests}
use Rattle.std.specs.Cmp.{nat_cmp_is}
use Rattle.std.proofs.lemmas.Cmp.{nat_cmp_total, nat_list_cmp_total, ranked, tied_itself}
use Rattle.std.proofs.lemmas.Map.Lookups.{exact_unsigned}
use Rattle.std.proofs.lemmas.List.{drop-drop, length-drop, length-take-le, take-append-drop, take_all}
use Rattle.std.proofs.lemmas.Slice.Eq.{bytes_eq-Decides}
use Rattle.std.proofs.lemmas.Map.Text.{is_eq-slice_cmp}

pub less_from_test : (o : Ordering) → is_lt o ≡ true → o ≡ Less
less_from_test Less e = refl
less_from_test Equal e = absurd cc
less_from_test Greater e = absurd cc

pub greater_from_less : (a b : List ℕ) → slice_cmp nat_cmp a b ≡ Less → slice_cmp nat_cmp b a ≡ Greater
greater_from_less a b e = nat_list_cmp_total.antisymm b a ∙ ap ordering_reverse e

pub less_from_greater : (a b : List ℕ) → slice_cmp nat_cmp a b ≡ Greater → slice_cmp nat_cmp b a ≡ Less
less_from_greater a b e = nat_list_cmp_total.antisymm b a ∙ ap ordering_reverse e

-- ---- equal names

pub bytes_eq-cmp : (a b : List ℕ) (o : Ordering) → slice_cmp nat_cmp a b ≡ o → bytes_eq a b ≡ is_eq o
bytes_eq-cmp a b o e = sym (is_eq-slice_cmp a b) ∙ ap is_eq e

pub bytes_eq-itself : (a : List ℕ) → bytes_eq a a ≡ true
bytes_eq-itself a = bytes_eq-cmp a a Equal (tied_itself nat_list_cmp_total a)

pub bytes_eq-same : (a b : List ℕ) → bytes_eq a b ≡ true → a ≡ b
bytes_eq-same a b e = (bytes_eq-Decides a b).0 e

pub cmp_equal : (a b : List ℕ) → slice_cmp nat_cmp a b ≡ Equal → a ≡ b
cmp_equal a b e = bytes_eq-same a b (bytes_eq-cmp a b Equal e)

same_front : (a t : List ℕ) → starts_with nat_eq a t ≡ true → take (length t) a ≡ t
same_front a t begins = sym (bytes_eq-same t (take (length t) a) begins)

-- names of four to eight bytes are the same where the first four and the last four are
pub same_by_ends : (a b : List ℕ) (last : ℕ) → length a ≡ length b → 4 ≤ length a → last ≤ 4 → starts_with nat_eq a (take 4 b) ≡ true
    → starts_with nat_eq (take (length a - last) (drop last a)) (take (length b - last) (drop last b)) ≡ true → a ≡ b
same_by_ends a b last lengths long short front back =
    let first : take 4 a ≡ take 4 b = ap (λ n. take n a) (sym (length-take-le 4 b (omega (arith, long, lengths)))) ∙ same_front a (take 4 b) front in
    let to_end : (l : List ℕ) → take (length l - last) (drop last l) ≡ drop last l = λ l. take_all (length l - last) (drop last l) (omega (arith, length-drop last l)) in
    let ends : starts_with nat_eq (drop last a) (drop last b) ≡ true = rw (to_end a, to_end b) at back in
    let fits : length (drop last a) ≤ length (drop last b) = omega (arith, length-drop last a, length-drop last b, lengths) in
    let final : drop last a ≡ drop last b = sym (take_all (length (drop last b)) (drop last a) fits) ∙ same_front (drop last a) (drop last b) ends in
    let four : last + (4 - last) ≡ 4 = omega (arith, short) in
    let rest : drop 4 a ≡ drop 4 b =
    ap (λ n. drop n a) (sym four) ∙ sym (drop-drop (4 - last) last a) ∙ ap (drop (4 - last)) final ∙ drop-drop (4 - last) last b ∙ ap (λ n. drop n b) four in
    sym (take-append-drop 4 a) ∙ ap (λ l. l ++ drop 4 a) first ∙ ap (λ l. take 4 b ++ l) rest ∙ take-append-drop 4 b

-- ---- along ascending names the comparisons with another rise

rises_from : (a b n : List ℕ) (o : Ordering) → slice_cmp nat_cmp a n ≡ o → slice_cmp nat_cmp a b ≡ Less → ordering_index o ≤ ordering_index (slice_cmp nat_cmp b n)
rises_from a b n Less is less = omega arith
rises_from a b n Equal is less =
    let above : slice_cmp nat_cmp b n ≡ Greater = greater_from_less n b (sym (nat_list_cmp_total.congr a n b is) ∙ less) in
    rw above (omega arith)
rises_from a b n Greater is less =
    let above : slice_cmp nat_cmp b n ≡ Greater = greater_from_less n b (nat_list_cmp_total.trans n a b (less_from_greater a n is) less) in
    rw above (omega arith)

pub rises : (a b n : List ℕ) → slice_cmp nat_cmp a b ≡ Less → ordering_index (slice_cmp nat_cmp a n) ≤ ordering_index (slice_cmp nat_cmp b n)
rises a b n less = rises_from a b n (slice_cmp nat_cmp a n) refl less

-- ---- names that begin with a text

-- two names of which one comes first: by their first bytes, or by the rest
less_parts : (x y : ℕ) (a b : List ℕ) → slice_cmp nat_cmp (x ∷ a) (y ∷ b) ≡ Less → (x < y) ⊎ ((x ≡ y) × (slice_cmp nat_cmp a b ≡ Less))
less_parts x y a b = by (nat_cmp x y) refl
  where
    by : (o : Ordering) → o ≡ nat_cmp x y → ordering_then o (slice_cmp nat_cmp a b) ≡ Less → (x < y) ⊎ ((x ≡ y) × (slice_cmp nat_cmp a b ≡ Less))
    by Less e less = inl (ranked x y Less e)
    by Equal e less = inr (ranked x y Equal e, less)
    by Greater e less = absurd cc

-- a name that comes before a text doesn't begin with it
pub begins_not-before : (a t : List ℕ) → slice_cmp nat_cmp a t ≡ Less → starts_with nat_eq a t ≡ false
begins_not-before [] [] less = absurd cc
begins_not-before [] (y ∷ t) less = refl
begins_not-before (x ∷ a) [] less = absurd cc
begins_not-before (x ∷ a) (y ∷ t) less =
    elim (less_parts x y a t less) [
      | inl first ↦ grind (arith, nat_tests)
      | inr rest ↦ let other = begins_not-before a t rest.1 in grind (arith, nat_tests)
    ]

-- a name between a text and one that begins with the text begins with it too
pub begins-between : (a b t : List ℕ) → slice_cmp nat_cmp t a ≡ Less → slice_cmp nat_cmp a b ≡ Less → starts_with nat_eq b t ≡ true → starts_with nat_eq a t ≡ true
begins-between a b [] above less begins = refl
begins-between [] b (z ∷ t) above less begins = absurd cc
begins-between (x ∷ a) [] (z ∷ t) above less begins = absurd cc
begins-between (x ∷ a) (y ∷ b) (z ∷ t) above less begins =
    let parts = and_parts (nat_eq z y) (starts_with nat_eq b t) begins in
    let first : z ≡ y = eqb-true z y parts.0 in
    elim (less_parts z x t a above) [
      | inl over ↦ elim (less_parts x y a b less) [ inl under ↦ absurd (omega (arith, over, under)) | inr same ↦ absurd (omega (arith, over, same.0)) ]
      | inr even ↦ elim (less_parts x y a b less) [
        | inl under ↦ absurd (omega (arith, even.0, under))
        | inr same ↦ and_from _ _ (eq-eqb z x even.0) (begins-between a b t even.1 same.1 parts.1)
      ]
    ]

pub begins-itself : (a : List ℕ) → starts_with nat_eq a a ≡ true
begins-itself a = rw (take_all (length a) a (omega arith)) (bytes_eq-itself a)

-- ---- two names, byte after byte

-- a byte that is the same in both decides nothing
pub cmp-past_same : (a b : List ℕ) (i : ℕ) → i < length a → i < length b → get_or a i 0 ≡ get_or b i 0
    → slice_cmp nat_cmp (drop i a) (drop i b) ≡ slice_cmp nat_cmp (drop (suc i) a) (drop (suc i) b)
cmp-past_same [] b i in_a in_b same = absurd (omega (arith, in_a))
cmp-past_same (x ∷ a) [] i in_a in_b same = absurd (omega (arith, in_b))
cmp-past_same (x ∷ a) (y ∷ b) zero in_a in_b same = rw (same, tied_itself nat_cmp_total y) refl
cmp-past_same (x ∷ a) (y ∷ b) (suc i) in_a in_b same = cmp-past_same a b i (omega (arith, in_a)) (omega (arith, in_b)) same

other_decides : (x y : ℕ) (o rest : Ordering) → nat_cmp x y ≡ o → ¬ (x ≡ y) → ordering_then o rest ≡ o
other_decides x y Less rest is other = refl
other_decides x y Equal rest is other = absurd (other (exact_unsigned x y is))
other_decides x y Greater rest is other = refl

-- the first that differs decides
pub cmp-differs : (a b : List ℕ) (i : ℕ) → i < length a → i < length b → ¬ (get_or a i 0 ≡ get_or b i 0)
    → slice_cmp nat_cmp (drop i a) (drop i b) ≡ nat_cmp (get_or a i 0) (get_or b i 0)
cmp-differs [] b i in_a in_b other = absurd (omega (arith, in_a))
cmp-differs (x ∷ a) [] i in_a in_b other = absurd (omega (arith, in_b))
cmp-differs (x ∷ a) (y ∷ b) zero in_a in_b other = other_decides x y (nat_cmp x y) (slice_cmp nat_cmp a b) refl other
cmp-differs (x ∷ a) (y ∷ b) (suc i) in_a in_b other = cmp-differs a b i (omega (arith, in_a)) (omega (arith, in_b)) other

-- and where one ends, the lengths do
pub cmp-past_end : (a b : List ℕ) (i : ℕ) → i ≤ length a → i ≤ length b → min (length a) (length b) ≤ i
    → slice_cmp nat_cmp (drop i a) (drop i b) ≡ nat_cmp (length a) (length b)
cmp-past_end [] [] zero in_a in_b ended = refl
cmp-past_end [] (y ∷ b) zero in_a in_b ended = nat_cmp_is 0 (length (y ∷ b)) Less (omega arith)
cmp-past_end (x ∷ a) [] zero in_a in_b ended = nat_cmp_is (length (x ∷ a)) 0 Greater (omega arith)
cmp-past_end (x ∷ a) (y ∷ b) zero in_a in_b ended = absurd (omega (arith, ended))
cmp-past_end [] b (suc i) in_a in_b ended = absurd (omega (arith, in_a))
cmp-past_end (x ∷ a) [] (suc i) in_a in_b ended = absurd (omega (arith, in_b))
cmp-past_end (x ∷ a) (y ∷ b) (suc i) in_a in_b ended =
    cmp-past_end a b i (omega (arith, in_a)) (omega (arith, in_b)) (omega (arith, ended))
    ∙ same_past (length a) (length b)
  where
    same_past : (m n : ℕ) → nat_cmp m n ≡ nat_cmp (suc m) (suc n)
    same_past m n = grind (arith, nat_tests)
