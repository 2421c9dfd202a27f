-- Marks of names, which tell most of the others apart at once.
use Rattle.std.specs.Prelude.{◌≡◌, ℕ, Bool, true, false, List, ◌+◌, ◌-◌, ◌*◌, ◌%◌, length, slice_index, slice_index_or}
use Rattle.std.specs.List.{list_all}
use Rattle.html5policy.specs.Policy.{OwnAttribute, PolicyOf}
use Rattle.html5policy.specs.declared.marks.Marks.{Marks}

-- a number below 64 that equal names share
unfoldable pub slot_of : List ℕ → ℕ
slot_of name = (slice_index name 0 + 7 * slice_index name (length name - 1) + 27 * (length name % 16)) % 64

-- whether a name is marked, or another one with its slot
abbrev pub is_marked : Marks → List ℕ → Bool
is_marked marks name = slice_index_or marks.slots (slot_of name) false

-- what was marked still is
abbrev pub KeepsMarks : Marks → Marks → Type 0
KeepsMarks before after = (name : List ℕ) → is_marked before name ≡ true → is_marked after name ≡ true

abbrev pub is_marked_own : Marks → OwnAttribute → Bool
is_marked_own marks own = is_marked marks own.attribute

-- the attributes of elements are marked, and those of each element
pub record AreMarked (marks : Marks) (attributes : List OwnAttribute) (names : List (List ℕ)) : Type 0 where
  pub own : list_all (is_marked_own marks) attributes ≡ true
  pub everywhere : list_all (is_marked marks) names ≡ true

-- each attribute that a policy names is marked
abbrev pub AllMarked : Marks → PolicyOf → Type 0
AllMarked marks policy = AreMarked marks policy.own policy.everywhere
