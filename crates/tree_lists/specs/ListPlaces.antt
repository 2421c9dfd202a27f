-- Where entries stand in the list of active formatting elements, counted from the last. These are words of the proofs: no promise to callers is
-- made of them.
use Rattle.std.specs.Prelude.{◌≡◌, ℕ, ◌+◌, ◌<◌, true, false, List, ◌∷◌, ◌++◌, Some, None, drop, length, take}
use Rattle.markup5ever.specs.Names.{AttributeOf}
use Rattle.tree_construction.specs.Adoption.{added_after, entry_of, replaced}
use Rattle.tree_construction.specs.Formatting.{Listed, has_entry, without_earliest, without_entry, without_oldest}
use Rattle.tree_construction.specs.Parser.{Entry}
use Rattle.tree_lists.specs.Formatting.{active_of}

pub record IsListedAt (n : ℕ) (list : List Entry) (d : ℕ) (e : Listed) : Type 0 where
  pub within : d < length list
  pub stands : drop d list ≡ active_of e ∷ drop (d + 1) list
  pub has : has_entry n list ≡ true
  pub element : entry_of n list ≡ Some e
  pub without : without_entry n list ≡ take d list ++ drop (d + 1) list
  pub replaced : (new : Entry) → replaced n new list ≡ take d list ++ new ∷ drop (d + 1) list
  pub added : (new : Entry) → added_after n new list ≡ take d list ++ new ∷ drop d list

pub record IsNotListed (n : ℕ) (list : List Entry) : Type 0 where
  pub has : has_entry n list ≡ false
  pub element : entry_of n list ≡ None
  pub without : without_entry n list ≡ list
  pub replaced : (new : Entry) → replaced n new list ≡ list
  pub added : (new : Entry) → added_after n new list ≡ list

pub record IsEarliest (name : List ℕ) (attributes : List AttributeOf) (list : List Entry) (d : ℕ) : Type 0 where
  pub within : d < length list
  pub without : without_earliest name attributes list ≡ take d list ++ drop (d + 1) list

pub record IsOldest (list : List Entry) (d : ℕ) : Type 0 where
  pub within : d < length list
  pub without : without_oldest list ≡ take d list ++ drop (d + 1) list
