-- Slips as they are written: what the rests of two names tell of the names.
use Rattle.std.proofs.Common.{◌≡◌, ◌≢◌, ℕ, ◌≤◌, Bool, true, false, List, [], ◌∷◌, ◌++◌, length, inl, inr, refl, sym, ap, ◌∙◌, subst}
use Rattle.std.specs.Prelude.{◌==◌, ◌&&◌, ◌||◌, ◌↔◌, if◌then◌else◌}
use Rattle.std.specs.Str.{bytes_eq}
use Rattle.std.proofs.lemmas.Bool.{and_from, and_parts, eq-eqb, eqb-false, eqb-true, le-leb, leb-true, ne_eqb, or_cases, or_left, or_right}
use Rattle.std.proofs.lemmas.Slice.Eq.{bytes_eq-Decides}
use Rattle.std.proofs.Common.{arith}
use Rattle.std.proofs.lemmas.Bool.Decides.{nat_tests}
use Rattle.html5names.specs.Slips.{DiffersByOne, HasOneMore, HasOneOther, IsSwapOf, differs_by_one, has_one_more, has_one_other, is_near, is_swap_of, is_swapped, rests}

-- the rests of two names that begin with these characters, by whether these are the same
abbrev rests_by : Bool → ℕ → ℕ → List ℕ → List ℕ → List ℕ × List ℕ
rests_by same a b name other = if same then rests name other else (a ∷ name, b ∷ other)

-- ---- swaps

swap-longer : (a b : ℕ) (name meant : List ℕ) → a ≡ b → IsSwapOf name meant → IsSwapOf (a ∷ name) (b ∷ meant)
swap-longer a b name meant same s = record {
  front = a ∷ s.front;
  first = s.first;
  second = s.second;
  back = s.back;
  name_is = ap (λ l. a ∷ l) s.name_is;
  meant_is = rw (sym same) (ap (λ l. a ∷ l) s.meant_is);
  differ = s.differ;
}

swap-here : (a b x y : ℕ) (name meant : List ℕ) → a ≢ b → ((a == y) && (x == b) && bytes_eq name meant) ≡ true → IsSwapOf (a ∷ x ∷ name) (b ∷ y ∷ meant)
swap-here a b x y name meant differ e =
    let all = and_parts _ _ e in
    let both = and_parts _ _ all.0 in
    let first : a ≡ y = eqb-true a y both.0 in
    let second : x ≡ b = eqb-true x b both.1 in
    let same : name ≡ meant = (bytes_eq-Decides name meant).0 all.1 in
    record {
      front = [];
      first = a;
      second = x;
      back = name;
      name_is = refl;
      meant_is = rw (sym second, sym first, sym same) refl;
      differ = λ e. differ (e ∙ second);
    }

swap-step : (same : Bool) (a b : ℕ) (name meant : List ℕ) → (a == b) ≡ same → is_swapped (rests_by same a b name meant).0 (rests_by same a b name meant).1 ≡ true
    → (is_swapped (rests name meant).0 (rests name meant).1 ≡ true → IsSwapOf name meant) → IsSwapOf (a ∷ name) (b ∷ meant)
swap-step true a b name meant same e more = swap-longer a b name meant (eqb-true a b same) (more e)
swap-step false a b [] meant apart e more = cc
swap-step false a b (x ∷ name) [] apart e more = cc
swap-step false a b (x ∷ name) (y ∷ meant) apart e more = swap-here a b x y name meant (eqb-false a b apart) e

swap-of : (name meant : List ℕ) → is_swapped (rests name meant).0 (rests name meant).1 ≡ true → IsSwapOf name meant
swap-of [] meant e = cc
swap-of (a ∷ []) [] e = cc
swap-of (a ∷ x ∷ name) [] e = cc
swap-of (a ∷ name) (b ∷ meant) e = swap-step (a == b) a b name meant refl e (swap-of name meant)

swap-found : (front : List ℕ) (a b : ℕ) (back : List ℕ) → a ≢ b
    → is_swapped (rests (front ++ a ∷ b ∷ back) (front ++ b ∷ a ∷ back)).0 (rests (front ++ a ∷ b ∷ back) (front ++ b ∷ a ∷ back)).1 ≡ true
swap-found [] a b back differ = rw (ne_eqb a b differ) (and_from _ _ (and_from _ _ (eq-eqb a a refl) (eq-eqb b b refl)) ((bytes_eq-Decides back back).1 refl))
swap-found (x ∷ front) a b back differ = rw (eq-eqb x x refl) (swap-found front a b back differ)

swap-is : (name meant : List ℕ) → IsSwapOf name meant → is_swapped (rests name meant).0 (rests name meant).1 ≡ true
swap-is name meant s = rw (s.name_is, s.meant_is) (swap-found s.front s.first s.second s.back s.differ)

pub swaps : (name meant : List ℕ) → (is_swap_of name meant ≡ true) ↔ IsSwapOf name meant
unfolding is_swap_of
swaps name meant = (swap-of name meant, swap-is name meant)

-- ---- one more

more-longer : (a b : ℕ) (longer shorter : List ℕ) → a ≡ b → HasOneMore longer shorter → HasOneMore (a ∷ longer) (b ∷ shorter)
more-longer a b longer shorter same s = record {
  front = a ∷ s.front;
  extra = s.extra;
  back = s.back;
  longer_is = ap (λ l. a ∷ l) s.longer_is;
  shorter_is = rw (sym same) (ap (λ l. a ∷ l) s.shorter_is);
}

more-here : (a : ℕ) (longer shorter : List ℕ) → bytes_eq longer shorter ≡ true → HasOneMore (a ∷ longer) shorter
more-here a longer shorter e = record {
  front = [];
  extra = a;
  back = shorter;
  longer_is = ap (λ l. a ∷ l) ((bytes_eq-Decides longer shorter).0 e);
  shorter_is = refl;
}

more-step : (same : Bool) (a b : ℕ) (longer shorter : List ℕ) → (a == b) ≡ same
    → has_one_more (rests_by same a b longer shorter).0 (rests_by same a b longer shorter).1 ≡ true
    → (has_one_more (rests longer shorter).0 (rests longer shorter).1 ≡ true → HasOneMore longer shorter) → HasOneMore (a ∷ longer) (b ∷ shorter)
more-step true a b longer shorter same e more = more-longer a b longer shorter (eqb-true a b same) (more e)
more-step false a b longer shorter apart e more = more-here a longer (b ∷ shorter) e

more-of : (longer shorter : List ℕ) → has_one_more (rests longer shorter).0 (rests longer shorter).1 ≡ true → HasOneMore longer shorter
more-of [] shorter e = cc
more-of (a ∷ longer) [] e = more-here a longer [] e
more-of (a ∷ longer) (b ∷ shorter) e = more-step (a == b) a b longer shorter refl e (more-of longer shorter)

at-once : (same : Bool) (x b : ℕ) (back : List ℕ) → has_one_more (rests (b ∷ back) back).0 (rests (b ∷ back) back).1 ≡ true
    → has_one_more (rests_by same x b (b ∷ back) back).0 (rests_by same x b (b ∷ back) back).1 ≡ true
at-once true x b back later = later
at-once false x b back later = (bytes_eq-Decides (b ∷ back) (b ∷ back)).1 refl

more-found-here : (x : ℕ) (back : List ℕ) → has_one_more (rests (x ∷ back) back).0 (rests (x ∷ back) back).1 ≡ true
more-found-here x [] = refl
more-found-here x (b ∷ back) = at-once (x == b) x b back (more-found-here b back)

more-found : (front : List ℕ) (x : ℕ) (back : List ℕ) → has_one_more (rests (front ++ x ∷ back) (front ++ back)).0 (rests (front ++ x ∷ back) (front ++ back)).1 ≡ true
more-found [] x back = more-found-here x back
more-found (y ∷ front) x back = rw (eq-eqb y y refl) (more-found front x back)

more-is : (longer shorter : List ℕ) → HasOneMore longer shorter → has_one_more (rests longer shorter).0 (rests longer shorter).1 ≡ true
more-is longer shorter s = rw (s.longer_is, s.shorter_is) (more-found s.front s.extra s.back)

-- ---- one other

other-longer : (a b : ℕ) (name meant : List ℕ) → a ≡ b → HasOneOther name meant → HasOneOther (a ∷ name) (b ∷ meant)
other-longer a b name meant same s = record {
  front = a ∷ s.front;
  one = s.one;
  other = s.other;
  back = s.back;
  name_is = ap (λ l. a ∷ l) s.name_is;
  meant_is = rw (sym same) (ap (λ l. a ∷ l) s.meant_is);
  differ = s.differ;
}

other-step : (same : Bool) (a b : ℕ) (name meant : List ℕ) → (a == b) ≡ same
    → has_one_other (rests_by same a b name meant).0 (rests_by same a b name meant).1 ≡ true
    → (has_one_other (rests name meant).0 (rests name meant).1 ≡ true → HasOneOther name meant) → HasOneOther (a ∷ name) (b ∷ meant)
other-step true a b name meant same e more = other-longer a b name meant (eqb-true a b same) (more e)
other-step false a b name meant apart e more = record {
  front = [];
  one = a;
  other = b;
  back = name;
  name_is = refl;
  meant_is = ap (λ l. b ∷ l) (sym ((bytes_eq-Decides name meant).0 e));
  differ = eqb-false a b apart;
}

other-of : (name meant : List ℕ) → has_one_other (rests name meant).0 (rests name meant).1 ≡ true → HasOneOther name meant
other-of [] meant e = cc
other-of (a ∷ name) [] e = cc
other-of (a ∷ name) (b ∷ meant) e = other-step (a == b) a b name meant refl e (other-of name meant)

other-found : (front : List ℕ) (a b : ℕ) (back : List ℕ) → a ≢ b
    → has_one_other (rests (front ++ a ∷ back) (front ++ b ∷ back)).0 (rests (front ++ a ∷ back) (front ++ b ∷ back)).1 ≡ true
other-found [] a b back differ = rw (ne_eqb a b differ) ((bytes_eq-Decides back back).1 refl)
other-found (x ∷ front) a b back differ = rw (eq-eqb x x refl) (other-found front a b back differ)

other-is : (name meant : List ℕ) → HasOneOther name meant → has_one_other (rests name meant).0 (rests name meant).1 ≡ true
other-is name meant s = rw (s.name_is, s.meant_is) (other-found s.front s.one s.other s.back s.differ)

-- ---- the one or the other

-- the rests of two names the other way round
turned-step : (same : Bool) (a b : ℕ) (name other : List ℕ) → rests other name ≡ ((rests name other).1, (rests name other).0)
    → rests_by same b a other name ≡ ((rests_by same a b name other).1, (rests_by same a b name other).0)
turned-step true a b name other turned = turned
turned-step false a b name other turned = refl

eqb-turned : (a b : ℕ) → (b == a) ≡ (a == b)
eqb-turned a b = grind (arith, nat_tests)

turned : (name other : List ℕ) → rests other name ≡ ((rests name other).1, (rests name other).0)
turned [] [] = refl
turned [] (b ∷ other) = refl
turned (a ∷ name) [] = refl
turned (a ∷ name) (b ∷ other) = rw (eqb-turned a b) (turned-step (a == b) a b name other (turned name other))

differ-of : (name meant : List ℕ) → differs_by_one (rests name meant).0 (rests name meant).1 ≡ true → DiffersByOne name meant
differ-of name meant e = elim (or_cases (has_one_more (rests name meant).0 (rests name meant).1 || has_one_more (rests name meant).1 (rests name meant).0) _ e) [
  | inl either ↦ elim (or_cases (has_one_more (rests name meant).0 (rests name meant).1) _ either) [
    | inl more ↦ inl (more-of name meant more)
    | inr less ↦ inr (inl (more-of meant name (rw (turned name meant) less)))
  ]
  | inr other ↦ inr (inr (other-of name meant other))
]

less-is : (name meant : List ℕ) → HasOneMore meant name → has_one_more (rests name meant).1 (rests name meant).0 ≡ true
less-is name meant less = subst (λ (r : List ℕ × List ℕ). has_one_more r.0 r.1 ≡ true) (turned name meant) (more-is meant name less)

differ-is : (name meant : List ℕ) → DiffersByOne name meant → differs_by_one (rests name meant).0 (rests name meant).1 ≡ true
differ-is name meant (inl more) = or_left _ _ (or_left _ _ (more-is name meant more))
differ-is name meant (inr (inl less)) = or_left _ _ (or_right _ _ (less-is name meant less))
differ-is name meant (inr (inr other)) = or_right _ _ (other-is name meant other)

pub near : (name meant : List ℕ) → (is_near name meant ≡ true) ↔ ((4 ≤ length name) × (4 ≤ length meant) × DiffersByOne name meant)
unfolding is_near
near name meant = (
  λ e.
      let all = and_parts _ _ e in
      let both = and_parts _ _ all.0 in
      (leb-true 4 (length name) both.0, leb-true 4 (length meant) both.1, differ-of name meant all.1),
  λ parts. and_from _ _ (and_from _ _ (le-leb 4 (length name) parts.0) (le-leb 4 (length meant) parts.1)) (differ-is name meant parts.2),
)
