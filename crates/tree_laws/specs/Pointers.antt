-- What the head and form element pointers name, in words that contracts cite.
use Rattle.std.specs.Prelude.{◌≡◌, ℕ, List, ◌∷◌, ◌++◌, Option, Some, None, codes}
use Rattle.markup5ever.specs.Names.{AttributeOf}
use Rattle.tree_construction.specs.declared.kinds.Namespace.TheVariants.{Html}
use Rattle.tree_construction.specs.Page.{Edit}
use Rattle.tree_construction.specs.Page.Edit.{MakeElement}

-- an edit made an HTML element of this name
pub record IsElement (edits : List Edit) (n : ℕ) (name : List ℕ) : Type 0 where
  pub after : List Edit
  pub before : List Edit
  pub attributes : List AttributeOf
  pub is : edits ≡ after ++ MakeElement n Html name attributes ∷ before

-- "the head element pointer", once it is set
abbrev pub IsHead : List Edit → Option ℕ → Type 0
IsHead edits None = Unit {0}
IsHead edits (Some n) = IsElement edits n (codes "head")

-- "the form element pointer": in the fragment case it can be the form around the context element, whose number is 2
pub data IsFormElement (edits : List Edit) : ℕ → Type 0 where
  AroundContext : IsFormElement edits 2
  Made : (n : ℕ) → IsElement edits n (codes "form") → IsFormElement edits n

abbrev pub IsForm : List Edit → Option ℕ → Type 0
IsForm edits None = Unit {0}
IsForm edits (Some n) = IsFormElement edits n
