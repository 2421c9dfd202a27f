-- What a binary search by name finds.
use Rattle.std.proofs.Common.{◌≡◌, ℕ, ◌+◌, ◌<◌, ◌≤◌, List, [], ◌∷◌, ◌++◌, length, map, take, drop, zero, suc, get_or, Option, None, Some, true, false, Result, Ok, Err, IfOk, IfErr, IsTrue, String, string_bytes, refl, sym, ap, subst, ◌∙◌, arith}
use Rattle.std.specs.Cmp.Lexicographic.{slice_cmp}
use Rattle.std.specs.Bool.{nat_eq}
use Rattle.std.specs.List.{AllByRecursion, insert, slice_get, starts_with}
use Rattle.std.specs.List.Sorted.{IsSearchInRange, IsBinarySearchResult, IsNonDecreasingBy}
use Rattle.std.specs.Option.{option_map_or}
use Rattle.std.specs.Ordering.{nat_cmp, ordering_index}
use Rattle.std.specs.declared.cmp.Ordering.{Ordering}
use Rattle.std.specs.declared.cmp.Ordering.TheVariants.{Less, Equal, Greater}
use Rattle.std.proofs.lemmas.Bool.{or_left, or_right}
use Rattle.std.proofs.lemmas.Option.{slice_get-get_or}
use Rattle.std.proofs.lemmas.List.{drop-map, get_or-map, length-map, map-append, take-map}
use Rattle.markup5ever.specs.NamedReferences.{NamedReference, begins_name, characters_of_name, reference_of, references_of, comes_before, IsAscending, IsTable}
use Rattle.markup5ever.specs.Place.{IsAt, IsGapFor}
use Rattle.markup5ever.proofs.NamedReferencesLemmas.{characters-at, begins-found, begins-absent, first_begins}
use Rattle.markup5ever.proofs.NameOrder.{cmp_equal, less_from_test, rises}

module _ {X : Type 0} {Y : Type 0} (f : X → Y) where
  -- each of a list, at a place
  all_at : (P : Y → Type 0) (xs : List X) → AllByRecursion P (map f xs) → (k : ℕ) (d : X) → k < length xs → P (f (get_or xs k d))
  all_at P [] all k d within = absurd (omega (arith, within))
  all_at P (x ∷ xs) all zero d within = all.0
  all_at P (x ∷ xs) all (suc k) d within = all_at P xs all.1 k d (omega (arith, within))

  -- what holds at each place below one
  all_below : (P : Y → Type 0) (xs : List X) (i : ℕ) → i ≤ length xs → ((k : ℕ) (d : X) → k < i → P (f (get_or xs k d))) → AllByRecursion P (take i (map f xs))
  all_below P xs zero within each = tt
  all_below P [] (suc i) within each = absurd (omega (arith, within))
  all_below P (x ∷ xs) (suc i) within each = (each 0 x (omega arith), all_below P xs i (omega (arith, within)) (λ k d less. each (suc k) d (omega (arith, less))))

  -- what holds at each place from one on
  all_from : (P : Y → Type 0) (xs : List X) (i : ℕ) → ((k : ℕ) (d : X) → i ≤ k → k < length xs → P (f (get_or xs k d))) → AllByRecursion P (drop i (map f xs))
  all_from P [] zero each = tt
  all_from P [] (suc i) each = tt
  all_from P (x ∷ xs) zero each = (each 0 x (omega arith) (omega arith), all_from P xs zero (λ k d low less. each (suc k) d (omega arith) (omega (arith, less))))
  all_from P (x ∷ xs) (suc i) each = all_from P xs i (λ k d low less. each (suc k) d (omega (arith, low)) (omega (arith, less)))

  -- what holds of the value at a place
  holds_at : (P : Y → Type 0) (xs : List X) (i : ℕ) → i < length xs → ((d : X) → P (f (get_or xs i d))) → (e : Y) → P (get_or (map f xs) i e)
  holds_at P [] i within here e = absurd (omega (arith, within))
  holds_at P (x ∷ xs) zero within here e = here x
  holds_at P (x ∷ xs) (suc i) within here e = holds_at P xs i (omega (arith, within)) here e

lowest : (o : Ordering) → ordering_index o ≤ 0 → o ≡ Less
lowest Less low = refl
lowest Equal low = absurd (omega (arith, low))
lowest Greater low = absurd (omega (arith, low))

highest : (o : Ordering) → 2 ≤ ordering_index o → o ≡ Greater
highest Less high = absurd (omega (arith, high))
highest Equal high = absurd (omega (arith, high))
highest Greater high = refl

module _ {Z : Type 0} (name : List ℕ) where
  -- along ascending names the comparisons with another rise
  comparisons_rise : (items : List (String Z × ℕ × Option ℕ)) → IsAscending (references_of items) → IsNonDecreasingBy (λ item. ordering_index (slice_cmp nat_cmp (string_bytes item.0) name)) items
  unfolding IsAscending
  comparisons_rise [] ascending i j d le within = absurd (omega (arith, within))
  comparisons_rise (x ∷ xs) ascending zero zero d le within = omega arith
  comparisons_rise (x ∷ xs) ascending zero (suc j) d le within =
      let later = all_at reference_of (λ entry. IsTrue (comes_before (string_bytes x.0) entry.name)) xs ascending.0 j d (omega (arith, within)) in
      rises (string_bytes x.0) (string_bytes (get_or xs j d).0) name (less_from_test _ later)
  comparisons_rise (x ∷ xs) ascending (suc i) zero d le within = absurd (omega (arith, le))
  comparisons_rise (x ∷ xs) ascending (suc i) (suc j) d le within = comparisons_rise xs ascending.1 i j d (omega (arith, le)) (omega (arith, within))

  -- a binary search finds the name's place, or the gap for it
  pub searched : (items : List (String Z × ℕ × Option ℕ)) (r : Result ℕ ℕ) → IsAscending (references_of items) → IsSearchInRange r (length items) → IsBinarySearchResult (λ item. slice_cmp nat_cmp (string_bytes item.0) name) items r → record { found : IfOk r (IsAt (references_of items) name); absent : IfErr r (IsGapFor (references_of items) name) }
  searched items (Ok place) ascending within equal = record {
    found = record {
      within = rw (length-map items (reference_of {Z = Z})) within;
      named = holds_at reference_of (λ entry. entry.name ≡ name) items place within (λ d. cmp_equal _ _ (equal d));
    };
    absent = tt;
  }
  searched items (Err gap) ascending within parted =
      let parts = parted (comparisons_rise items ascending) in
      record {
        found = tt;
        absent = record {
          within = rw (length-map items (reference_of {Z = Z})) within;
          before = all_below reference_of (λ entry. slice_cmp nat_cmp entry.name name ≡ Less) items gap within (λ k d less. parts.0 k d (omega arith) less);
          afterwards = all_from reference_of (λ entry. slice_cmp nat_cmp entry.name name ≡ Greater) items gap (λ k d low less. parts.1 k d low less);
        };
      }

  -- a name stands where its entry does
  pub stands : (items : List (String Z × ℕ × Option ℕ)) (place : ℕ) → place < length items → ((d : String Z × ℕ × Option ℕ) → string_bytes (get_or items place d).0 ≡ name) → IsAt (references_of items) name place
  stands items place within named = record {
    within = rw (length-map items (reference_of {Z = Z})) within;
    named = holds_at reference_of (λ entry. entry.name ≡ name) items place within named;
  }

  -- a name begins with the text where one at some place does
  pub begins-somewhere : (items : List (String Z × ℕ × Option ℕ)) (place : ℕ) → place < length items → ((d : String Z × ℕ × Option ℕ) → starts_with nat_eq (string_bytes (get_or items place d).0) name ≡ true) → begins_name (references_of items) name ≡ true
  unfolding begins_name
  begins-somewhere [] place within begins = absurd (omega (arith, within))
  begins-somewhere (x ∷ xs) zero within begins = or_left (starts_with nat_eq (string_bytes x.0) name) (begins_name (references_of xs) name) (begins x)
  begins-somewhere (x ∷ xs) (suc k) within begins =
      or_right (starts_with nat_eq (string_bytes x.0) name) (begins_name (references_of xs) name) (begins-somewhere xs k (omega (arith, within)) begins)

  -- where the entry before a place comes before the name, all before the place do
  pub all_before : (items : List (String Z × ℕ × Option ℕ)) (last : ℕ) → IsAscending (references_of items) → last < length items → ((d : String Z × ℕ × Option ℕ) → slice_cmp nat_cmp (string_bytes (get_or items last d).0) name ≡ Less) → AllByRecursion (λ entry. slice_cmp nat_cmp entry.name name ≡ Less) (take (last + 1) (references_of items))
  all_before items last ascending within less =
      all_below reference_of (λ entry. slice_cmp nat_cmp entry.name name ≡ Less) items (last + 1) (omega (arith, within)) (λ k d below.
      lowest _ (omega (arith, comparisons_rise items ascending k last d (omega (arith, below)) within, ap ordering_index (less d))))

  -- where the entry at a place comes after the name, it and all after it do
  pub all_after : (items : List (String Z × ℕ × Option ℕ)) (place : ℕ) → IsAscending (references_of items) → ((d : String Z × ℕ × Option ℕ) → slice_cmp nat_cmp (string_bytes (get_or items place d).0) name ≡ Greater) → AllByRecursion (λ entry. slice_cmp nat_cmp entry.name name ≡ Greater) (drop place (references_of items))
  all_after items place ascending greater =
      all_from reference_of (λ entry. slice_cmp nat_cmp entry.name name ≡ Greater) items place (λ k d low within.
      highest _ (omega (arith, comparisons_rise items ascending place k d low within, ap ordering_index (greater d))))

-- one more item, and its reference
pub references-insert : {Z : Type 0} (items : List (String Z × ℕ × Option ℕ)) (gap : ℕ) (item : String Z × ℕ × Option ℕ) → references_of (insert items gap item) ≡ insert (references_of items) gap (reference_of item)
references-insert {Z} items gap item =
    map-append (reference_of {Z = Z}) (take gap items) (item ∷ drop gap items)
    ∙ ap (λ es. es ++ reference_of item ∷ references_of (drop gap items)) (sym (take-map (reference_of {Z = Z}) gap items))
    ∙ ap (λ es. take gap (references_of items) ++ reference_of item ∷ es) (sym (drop-map (reference_of {Z = Z}) gap items))

-- ---- what the place that was found says of the entries

module _ {Z : Type 0} (items : List (String Z × ℕ × Option ℕ)) (entries : List NamedReference) (name : List ℕ) (place : ℕ) where
  pub characters-found : (found : String Z × ℕ × Option ℕ) → references_of items ≡ entries → IsTable (references_of items) → IsAt entries name place → found ≡ get_or items place found → characters_of_name entries name ≡ Some (found.1, found.2)
  characters-found found is table at read =
      let within : place < length items = omega (arith, at.within, ap length is, length-map items (reference_of {Z = Z})) in
      let reference : get_or entries place (reference_of found) ≡ reference_of found =
      ap (λ es. get_or es place (reference_of found)) (sym is) ∙ get_or-map (reference_of {Z = Z}) items place found (reference_of found) within ∙ ap reference_of (sym read) in
      characters-at entries name place (reference_of found) (subst IsTable is table) at ∙ ap (λ (entry : NamedReference). Some (entry.first, entry.second)) reference

  pub begins-found_at : references_of items ≡ entries → IsTable (references_of items) → IsAt entries name place → begins_name entries name ≡ true
  begins-found_at is table at =
      let none : NamedReference = record { name = name; first = 0; second = None } in
      begins-found entries name _ (characters-at entries name place none (subst IsTable is table) at)

  -- in ascending order a name begins so where the one at the gap does
  pub begins-after : references_of items ≡ entries → IsAscending (references_of items) → IsGapFor entries name place → begins_name entries name ≡ option_map_or (λ (item : String Z × ℕ × Option ℕ). starts_with nat_eq (string_bytes item.0) name) (slice_get items place) false
  begins-after is ascending gap =
      begins-absent entries name place (subst IsAscending is ascending) gap
      ∙ ap (λ es. first_begins (drop place es) name) (sym is)
      ∙ first_at items place
    where
      first_at : (xs : List (String Z × ℕ × Option ℕ)) (k : ℕ) → first_begins (drop k (references_of xs)) name ≡ option_map_or (λ (item : String Z × ℕ × Option ℕ). starts_with nat_eq (string_bytes item.0) name) (slice_get xs k) false
      first_at [] zero = refl
      first_at [] (suc k) = refl
      first_at (x ∷ xs) zero = refl
      first_at (x ∷ xs) (suc k) = first_at xs k

  pub begins-item : (found : String Z × ℕ × Option ℕ) → references_of items ≡ entries → IsAscending (references_of items) → IsGapFor entries name place → place < length items → found ≡ get_or items place found → begins_name entries name ≡ starts_with nat_eq (string_bytes found.0) name
  begins-item found is ascending gap within read =
      begins-after is ascending gap ∙ ap (λ o. option_map_or (λ (item : String Z × ℕ × Option ℕ). starts_with nat_eq (string_bytes item.0) name) o false) (slice_get-get_or items place found within ∙ ap (λ item. Some item) (sym read))

  pub begins-past_end : references_of items ≡ entries → IsAscending (references_of items) → IsGapFor entries name place → length items ≤ place → begins_name entries name ≡ false
  begins-past_end is ascending gap past =
      begins-after is ascending gap ∙ ap (λ o. option_map_or (λ (item : String Z × ℕ × Option ℕ). starts_with nat_eq (string_bytes item.0) name) o false) (past_end items place past)
    where
      past_end : (xs : List (String Z × ℕ × Option ℕ)) (k : ℕ) → length xs ≤ k → slice_get xs k ≡ None
      past_end [] k past = refl
      past_end (x ∷ xs) zero past = absurd (omega (arith, past))
      past_end (x ∷ xs) (suc k) past = past_end xs k (omega (arith, past))
