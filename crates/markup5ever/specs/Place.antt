-- Where a name stands among ascending ones.
use Rattle.std.specs.Prelude.{◌≡◌, ℕ, ◌<◌, ◌≤◌, List, length, take, drop}
use Rattle.std.specs.Cmp.Lexicographic.{slice_cmp}
use Rattle.std.specs.List.{AllByRecursion, HoldsAt}
use Rattle.std.specs.Ordering.{nat_cmp}
use Rattle.std.specs.declared.cmp.Ordering.TheVariants.{Less, Greater}
use Rattle.markup5ever.specs.NamedReferences.{NamedReference}

-- the entry at the place has the name
pub record IsAt (entries : List NamedReference) (name : List ℕ) (place : ℕ) : Type 0 where
  pub within : place < length entries
  pub named : HoldsAt (λ entry. entry.name ≡ name) entries place

-- the name would stand at the place. Names before it come before the name, and those after it come after the name.
pub record IsGapFor (entries : List NamedReference) (name : List ℕ) (place : ℕ) : Type 0 where
  pub within : place ≤ length entries
  pub before : AllByRecursion (λ entry. slice_cmp nat_cmp entry.name name ≡ Less) (take place entries)
  pub afterwards : AllByRecursion (λ entry. slice_cmp nat_cmp entry.name name ≡ Greater) (drop place entries)
