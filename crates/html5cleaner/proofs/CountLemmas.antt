-- Counts of names.
use Rattle.std.proofs.Common.{◌≡◌, ℕ, ◌+◌, ◌<◌, ◌≤◌, Bool, true, false, Option, None, Some, List, [], ◌∷◌, ◌++◌, length, get_or, refl, ap, sym, ◌∙◌, arith}
use Rattle.std.specs.Prelude.{◌==◌, not, ◌||◌, nat_lt, slice_set, if◌then◌else◌}
use Rattle.std.specs.List.{find, position, position_or_len}
use Rattle.std.specs.Option.{option_or}
use Rattle.std.specs.Str.{bytes_eq}
use Rattle.std.proofs.lemmas.Bool.Decides.{nat_tests}
use Rattle.std.proofs.lemmas.Grind.{common_steps}
use Rattle.std.proofs.lemmas.List.{set-get_or}
use Rattle.std.proofs.lemmas.List.Folds.{find-append, find-set, find_at, find_past}
use Rattle.std.proofs.lemmas.List.Quantifiers.{position-Some}
use Rattle.std.proofs.lemmas.Option.{slice_get_past}
use Rattle.markup5ever.proofs.NameOrder.{bytes_eq-itself, bytes_eq-same}
use Rattle.html5cleaner.specs.Open.{closed_by, is_open, name_of, reach}
use Rattle.html5cleaner.specs.Counts.{count_of, count_where, is_entry_of, occurrences, one_where}
use Rattle.html5cleaner.specs.declared.counts.Entry.{Entry}

zero-more : (n : ℕ) → n ≡ 0 + n
zero-more n = omega arith

-- ---- what is counted is open

open-here : (here opened : Bool) (count : ℕ) → opened ≡ not (count == 0) → (here || opened) ≡ not (((if here then 1 else 0) + count) == 0)
open-here true opened count is = sym (ap not (one-more count))
  where
    one-more : (n : ℕ) → ((1 + n) == 0) ≡ false
    one-more n = grind (arith, common_steps)
open-here false opened count is = is ∙ ap (λ n. not (n == 0)) (zero-more count)

pub open-counted : (opened : List (List ℕ)) (name : List ℕ) → is_open opened name ≡ not (occurrences opened name == 0)
unfolding is_open occurrences
open-counted [] name = refl
open-counted (inner ∷ opened) name = open-here (bytes_eq inner name) (is_open opened name) (occurrences opened name) (open-counted opened name)

-- the innermost one is counted
pub innermost-counted : (inner : List ℕ) (opened : List (List ℕ)) → 0 < occurrences (inner ∷ opened) inner
unfolding occurrences
innermost-counted inner opened =
    let one : one_where inner inner ≡ 1 = ap (λ (b : Bool). if b then 1 else 0) (bytes_eq-itself inner) in
    omega (arith, one)

pub not-zero : (n : ℕ) → (n ≡ 0 → ⊥) → (n == 0) ≡ false
not-zero n some = grind (arith, common_steps)

-- an end tag of a name that is not counted closes none
pub closes-none : (opened : List (List ℕ)) (name : List ℕ) → occurrences opened name ≡ 0 → closed_by opened name ≡ 0
unfolding closed_by
closes-none opened name none = ap (λ (b : Bool). if b then reach opened name else 0) (open-counted opened name ∙ ap (λ n. not (n == 0)) none)

pub closes-some : (opened : List (List ℕ)) (name : List ℕ) → (occurrences opened name == 0) ≡ false → closed_by opened name ≡ reach opened name
unfolding closed_by
closes-some opened name some = ap (λ (b : Bool). if b then reach opened name else 0) (open-counted opened name ∙ ap not some)

-- without the innermost one
pub popped-count : (inner : List ℕ) (opened : List (List ℕ)) (other : List ℕ) (old new : ℕ) → old ≡ occurrences (inner ∷ opened) other → old ≡ one_where inner other + new → new ≡ occurrences opened other
unfolding occurrences
popped-count inner opened other old new was is = omega (arith, was, is)

-- with one inside the others
pub pushed-count : (inner : List ℕ) (opened : List (List ℕ)) (other : List ℕ) (old new : ℕ) → old ≡ occurrences opened other → new ≡ one_where inner other + old → new ≡ occurrences (inner ∷ opened) other
unfolding occurrences
pushed-count inner opened other old new was is = omega (arith, was, is)

-- ---- places

place-is : (within : Bool) (n i : ℕ) → (if within then Some n else None) ≡ Some i → n ≡ i
place-is true n i is = cc
place-is false n i is = absurd cc

place-none : (within : Bool) (n len : ℕ) → nat_lt n len ≡ within → (if within then Some n else None) ≡ None → len ≤ n
place-none true n len is none = absurd cc
place-none false n len is none = grind (arith, nat_tests)

module _ {Z : Type 0} where
  first-place : (name : List ℕ) (counts : List (Entry Z)) (place : ℕ) → position (is_entry_of name) counts ≡ Some place → place ≡ position_or_len (is_entry_of name) counts
  first-place name counts place is =
      sym (place-is (nat_lt (position_or_len (is_entry_of name) counts) (length counts)) (position_or_len (is_entry_of name) counts) place is)

  pub count-none : (name : List ℕ) (counts : List (Entry Z)) → position (is_entry_of name) counts ≡ None → count_of counts name ≡ 0
  unfolding count_of
  count-none name counts none =
      ap count_where (find_at (is_entry_of name) counts ∙ slice_get_past counts (position_or_len (is_entry_of name) counts)
      (place-none (nat_lt (position_or_len (is_entry_of name) counts) (length counts)) (position_or_len (is_entry_of name) counts) (length counts) refl none))

  -- the count of a name that has an entry is there
  pub count-here : (name : List ℕ) (counts : List (Entry Z)) (place : ℕ) (entry : Entry Z) → position (is_entry_of name) counts ≡ Some place → entry ≡ get_or counts place entry
      → count_of counts name ≡ entry.count
  unfolding count_of
  count-here name counts place entry is here =
      let found = position-Some (is_entry_of name) counts place entry is in
      ap count_where (ap (find (is_entry_of name)) (sym (set-get_or counts place entry))
      ∙ find-set (is_entry_of name) counts place (get_or counts place entry) (first-place name counts place is) found.0 found.1
      ∙ ap Some (sym here))

  count-by_test : (name other : List ℕ) (counts : List (Entry Z)) (place : ℕ) (entry changed : Entry Z) (same : Bool) → bytes_eq name other ≡ same
      → position (is_entry_of name) counts ≡ Some place → entry ≡ get_or counts place entry → name_of changed.name ≡ name_of entry.name
      → count_of (slice_set counts place changed) other ≡ (if same then changed.count else count_of counts other)
  unfolding count_of
  count-by_test name other counts place entry changed true same is here kept =
      let found = position-Some (is_entry_of name) counts place entry is in
      let passes : is_entry_of name changed ≡ true = ap (λ n. bytes_eq n name) (kept ∙ ap (λ (e : Entry Z). name_of e.name) here) ∙ found.1 in
      ap (λ n. count_where (find (is_entry_of n) (slice_set counts place changed))) (sym (bytes_eq-same name other same))
      ∙ ap count_where (find-set (is_entry_of name) counts place changed (first-place name counts place is) found.0 passes)
  count-by_test name other counts place entry changed false same is here kept =
      let found = position-Some (is_entry_of name) counts place entry is in
      let was : is_entry_of other (get_or counts place entry) ≡ false = ap (λ n. bytes_eq n other) (bytes_eq-same (name_of (get_or counts place entry).name) name found.1) ∙ same in
      let fails : is_entry_of other changed ≡ false = ap (λ n. bytes_eq n other) (kept ∙ ap (λ (e : Entry Z). name_of e.name) here) ∙ was in
      ap count_where (find_past (is_entry_of other) counts place changed entry was fails)

  pub count-set : (name other : List ℕ) (counts : List (Entry Z)) (place : ℕ) (entry changed : Entry Z)
      → position (is_entry_of name) counts ≡ Some place → entry ≡ get_or counts place entry → name_of changed.name ≡ name_of entry.name
      → count_of (slice_set counts place changed) other ≡ (if bytes_eq name other then changed.count else count_of counts other)
  count-set name other counts place entry changed is here kept = count-by_test name other counts place entry changed (bytes_eq name other) refl is here kept

  raised-by_test : (name other : List ℕ) (counts : List (Entry Z)) (count now : ℕ) (same : Bool) → bytes_eq name other ≡ same → count_of counts name ≡ count → now ≡ count + 1
      → (if same then now else count_of counts other) ≡ (if same then 1 else 0) + count_of counts other
  raised-by_test name other counts count now true same was is = let here = ap (count_of counts) (bytes_eq-same name other same) in omega (arith, here, was, is)
  raised-by_test name other counts count now false same was is = zero-more (count_of counts other)

  -- one more of a name that has an entry
  pub count-raised : (name other : List ℕ) (counts : List (Entry Z)) (place : ℕ) (entry changed : Entry Z)
      → position (is_entry_of name) counts ≡ Some place → entry ≡ get_or counts place entry → name_of changed.name ≡ name_of entry.name → changed.count ≡ entry.count + 1
      → count_of (slice_set counts place changed) other ≡ one_where name other + count_of counts other
  count-raised name other counts place entry changed is here kept more =
      count-set name other counts place entry changed is here kept
      ∙ raised-by_test name other counts entry.count changed.count (bytes_eq name other) refl (count-here name counts place entry is here) more

  lowered-by_test : (name other : List ℕ) (counts : List (Entry Z)) (count now : ℕ) (same : Bool) → bytes_eq name other ≡ same → count_of counts name ≡ count → count ≡ now + 1
      → count_of counts other ≡ (if same then 1 else 0) + (if same then now else count_of counts other)
  lowered-by_test name other counts count now true same was is = let here = ap (count_of counts) (bytes_eq-same name other same) in omega (arith, here, was, is)
  lowered-by_test name other counts count now false same was is = zero-more (count_of counts other)

  pub count-lowered : (name other : List ℕ) (counts : List (Entry Z)) (place : ℕ) (entry changed : Entry Z)
      → position (is_entry_of name) counts ≡ Some place → entry ≡ get_or counts place entry → name_of changed.name ≡ name_of entry.name → entry.count ≡ changed.count + 1
      → count_of counts other ≡ one_where name other + count_of (slice_set counts place changed) other
  count-lowered name other counts place entry changed is here kept less =
      lowered-by_test name other counts entry.count changed.count (bytes_eq name other) refl (count-here name counts place entry is here) less
      ∙ ap (λ n. one_where name other + n) (sym (count-set name other counts place entry changed is here kept))

  find-none : (name : List ℕ) (counts : List (Entry Z)) → position (is_entry_of name) counts ≡ None → find (is_entry_of name) counts ≡ None
  find-none name counts none =
      find_at (is_entry_of name) counts
      ∙ slice_get_past counts (position_or_len (is_entry_of name) counts)
      (place-none (nat_lt (position_or_len (is_entry_of name) counts) (length counts)) (position_or_len (is_entry_of name) counts) (length counts) refl none)

  new-by_test : (name other : List ℕ) (counts : List (Entry Z)) (entry : Entry Z) (same : Bool) → bytes_eq name other ≡ same
      → position (is_entry_of name) counts ≡ None → name_of entry.name ≡ name → entry.count ≡ 1
      → count_where (option_or (find (is_entry_of other) counts) (if bytes_eq (name_of entry.name) other then Some entry else None))
      ≡ (if same then 1 else 0) + count_where (find (is_entry_of other) counts)
  new-by_test name other counts entry true same none named one =
      let lacks : find (is_entry_of other) counts ≡ None = ap (λ n. find (is_entry_of n) counts) (sym (bytes_eq-same name other same)) ∙ find-none name counts none in
      let test : bytes_eq (name_of entry.name) other ≡ true = ap (λ n. bytes_eq n other) named ∙ same in
      let new = (λ i. count_where (option_or (lacks i) (if test i then Some entry else None))) ∙ one in
      let old = ap count_where lacks in
      omega (arith, new, old)
  new-by_test name other counts entry false same none named one =
      let test : bytes_eq (name_of entry.name) other ≡ false = ap (λ n. bytes_eq n other) named ∙ same in
      ap (λ b. count_where (option_or (find (is_entry_of other) counts) (if b then Some entry else None))) test
      ∙ or-none (find (is_entry_of other) counts)
    where
      or-none : (found : Option (Entry Z)) → count_where (option_or found None) ≡ 0 + count_where found
      or-none None = zero-more 0
      or-none (Some entry) = zero-more entry.count

  -- a new entry, of a name that had none
  pub count-new : (name other : List ℕ) (counts : List (Entry Z)) (entry : Entry Z) → position (is_entry_of name) counts ≡ None → name_of entry.name ≡ name → entry.count ≡ 1
      → count_of (counts ++ entry ∷ []) other ≡ one_where name other + count_of counts other
  unfolding count_of
  count-new name other counts entry none named one =
      ap count_where (find-append (is_entry_of other) counts (entry ∷ []))
      ∙ new-by_test name other counts entry (bytes_eq name other) refl none named one
