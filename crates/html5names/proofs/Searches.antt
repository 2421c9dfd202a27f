-- What searches find among listed names.
use Rattle.std.proofs.Common.{◌≡◌, ℕ, zero, suc, ◌+◌, add-one, ◌<◌, Bool, true, false, List, [], ◌∷◌, length, get_or, Option, Some, Result, Ok, Err, inl, inr, refl, sym, ap, ◌∙◌, arith}
use Rattle.std.specs.Prelude.{◌||◌, option_map, if◌then◌else◌}
use Rattle.std.specs.Borrow.{Bor}
use Rattle.std.specs.Cmp.Lexicographic.{slice_cmp}
use Rattle.std.specs.List.{find, list_any}
use Rattle.std.specs.List.Sorted.{IsBinarySearchResult, IsSearchInRange, IsSortedBy}
use Rattle.std.specs.Ordering.{is_eq, is_lt, nat_cmp, ordering_reverse}
use Rattle.std.specs.declared.cmp.Ordering.{Ordering}
use Rattle.std.specs.declared.cmp.Ordering.TheVariants.{Less, Equal, Greater}
use Rattle.std.specs.Result.{is_ok}
use Rattle.std.specs.Str.{bytes_eq}
use Rattle.std.proofs.lemmas.Bool.{and_parts, cases_lt, not-true}
use Rattle.std.proofs.lemmas.Cmp.{nat_list_cmp_total}
use Rattle.std.proofs.lemmas.List.Folds.{list_any_at, list_any_none}
use Rattle.std.proofs.lemmas.List.Sorted.{searchable_from_sorted}
use Rattle.std.proofs.lemmas.Map.Text.{is_eq-slice_cmp}
use Rattle.html5names.specs.Listed.{is_in_order, names_of}

-- ---- one after the other

-- a test of listed names is a test of what they are
list_any-names : (test : List ℕ → Bool) (listed : List (Bor (List ℕ))) → list_any (λ one. test one.now) listed ≡ list_any test (names_of listed)
list_any-names test [] = refl
list_any-names test (one ∷ listed) = ap (λ b. test one.now || b) (list_any-names test listed)

found-step : (b : Bool) (one : Bor (List ℕ)) (found : Option (Bor (List ℕ))) (others : Option (List ℕ)) → option_map (λ one. one.now) found ≡ others
    → option_map (λ one. one.now) (if b then Some one else found) ≡ (if b then Some one.now else others)
found-step true one found others e = refl
found-step false one found others e = e

pub find-names : (test : List ℕ → Bool) (listed : List (Bor (List ℕ))) → option_map (λ one. one.now) (find (λ one. test one.now) listed) ≡ find test (names_of listed)
find-names test [] = refl
find-names test (one ∷ listed) = found-step (test one.now) one _ _ (find-names test listed)

-- ---- by halves

-- no name that is listed comes before the one in front of it
in_order : (listed : List (Bor (List ℕ))) → is_in_order (names_of listed) ≡ true → (k : ℕ) (d : Bor (List ℕ)) → k + 1 < length listed
    → is_lt (slice_cmp nat_cmp (get_or listed (suc k) d).now (get_or listed k d).now) ≡ false
in_order [] e k d within = absurd (omega arith)
in_order (a ∷ []) e k d within = absurd (omega arith)
in_order (a ∷ b ∷ rest) e zero d within = not-true _ (and_parts _ _ e).0
in_order (a ∷ b ∷ rest) e (suc k) d within = in_order (b ∷ rest) (and_parts _ _ e).1 k d (omega arith)

sorted_names : (listed : List (Bor (List ℕ))) → is_in_order (names_of listed) ≡ true → IsSortedBy (λ a b. is_lt (slice_cmp nat_cmp a.now b.now)) listed
sorted_names listed e k d from within = rw add-one (in_order listed e k d within)

-- two names are the same where they tie, and else they are not
same-by-order : (a b : List ℕ) (o : Ordering) → slice_cmp nat_cmp a b ≡ o → bytes_eq b a ≡ is_eq (ordering_reverse o)
same-by-order a b o e = sym (is_eq-slice_cmp b a) ∙ ap is_eq (nat_list_cmp_total.antisymm b a ∙ ap ordering_reverse e)

pub found-listed : (listed : List (Bor (List ℕ))) (name : List ℕ) (r : Result ℕ ℕ) → is_in_order (names_of listed) ≡ true → IsSearchInRange r (length listed)
    → IsBinarySearchResult (λ one. slice_cmp nat_cmp one.now name) listed r → is_ok r ≡ list_any (bytes_eq name) (names_of listed)
found-listed [] name (Ok i) order within at = absurd (omega arith)
found-listed (one ∷ listed) name (Ok i) order within at =
    sym (list_any_at (λ other. bytes_eq name other.now) (one ∷ listed) i one within (same-by-order _ name Equal (at one)))
    ∙ list_any-names (bytes_eq name) (one ∷ listed)
found-listed listed name (Err i) order within parted =
    let halves = parted (searchable_from_sorted nat_list_cmp_total (λ (one : Bor (List ℕ)). one.now) listed name (sorted_names listed order)) in
    sym (list_any_none (λ other. bytes_eq name other.now) listed (λ k d below. elim (cases_lt k i) [
      | inl before ↦ same-by-order _ name Less (halves.0 k d (omega arith) before)
      | inr behind ↦ same-by-order _ name Greater (halves.1 k d behind below)
    ]))
    ∙ list_any-names (bytes_eq name) listed
