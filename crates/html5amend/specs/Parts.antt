-- A token of a page, with what is put before it and after it.
use Rattle.std.specs.Prelude.{ℕ, Bool, true, false, List, [], ◌∷◌, ◌++◌, ◌&&◌, if◌then◌else◌}
use Rattle.html5splice.specs.Edits.{EditOf, edited}
use Rattle.html5splice.specs.Edits.EditOf.{Keep, Replace}

pub record PartOf : Type 0 where
  pub before : List ℕ
  -- what happens to the token
  pub itself : EditOf
  pub after : List ℕ

-- a token that stays, with nothing round it
abbrev pub as_it_is : PartOf
as_it_is = record { before = []; itself = Keep; after = [] }

-- what is written of it
abbrev pub part_text : PartOf → List ℕ → List ℕ
part_text part source = part.before ++ edited part.itself source ++ part.after

abbrev pub is_nothing : List ℕ → Bool
is_nothing [] = true
is_nothing (byte ∷ text) = false

abbrev pub is_kept : EditOf → Bool
is_kept Keep = true
is_kept (Replace text) = false

-- whether that leaves the token unchanged
abbrev pub is_as_it_is : PartOf → Bool
is_as_it_is part = is_kept part.itself && (is_nothing part.before && is_nothing part.after)

-- what takes the place of the token
abbrev pub edit_of_part : PartOf → List ℕ → EditOf
edit_of_part part source = if is_as_it_is part then Keep else Replace (part_text part source)
